-- What is told of a number in text: its refusal or its value, a float by its bits.
use Rattle.std.specs.Prelude.{Ok, Err}
use Rattle.std.specs.Float.{binary64}
use Rattle.std.specs.Float.Ieee.{to_bits}
use Rattle.decimals.specs.Decimals.{Decimal}
use Rattle.numeral.specs.Spelling.{Whole}
use Rattle.exported.specs.declared.Told.{Told}
use Rattle.exported.specs.Telling.{told, refused_told}

abbrev pub whole_told : Whole → Told
whole_told (Ok n) = told 0 n 0
whole_told (Err refusal) = refused_told refusal

abbrev pub decimal_told : Decimal → Told
decimal_told (Ok x) = told 0 (to_bits binary64 x) 0
decimal_told (Err refusal) = refused_told refusal
