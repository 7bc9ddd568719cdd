-- The contracts of `reader` leave one outcome each. A reader holds its text by reference: `text` is that reference, and `now text` the bytes. Assumes nothing.
use mathlib.Core.Path.{◌≡◌, sym, ap, ◌∙◌}
use mathlib.Core.List.{List}
use Prim.Native.Nat.{ℕ}
use denote.Ref.{Bor}
use Rattle.reader.specs.declared.Reader.{Reader}
use Rattle.reader.specs.declared.Span.{Span}
use Rattle.std.specs.Prelude.{Option}
use Rattle.reader.specs.Reading.{line_at, field_at, second_line, moved_behind}
use Rattle.unique.specs.Only.{OnlyOne, OnlyTwo}
use Rattle.unique.proofs.Law.{once}

pub line_at_once : (text : List ℕ) (at : ℕ) → OnlyOne (λ (r : Option Span). r ≡ line_at text at)
line_at_once text at x y p q = once p q

pub field_at_once : (text : List ℕ) (at stop : ℕ) → OnlyOne (λ (r : Option Span). r ≡ field_at text at stop)
field_at_once text at stop x y p q = once p q

-- a reader by its text and its place
reader_same : (x y : Reader) → x.text ≡ y.text → x.at ≡ y.at → x ≡ y
reader_same x y p q = ap (λ (t : Bor (List ℕ)). record { text = t; at = x.at }) p ∙ ap (λ (n : ℕ). record { text = y.text; at = n }) q

pub new_once : (text : Bor (List ℕ)) → OnlyOne (λ (r : Reader). (r.text ≡ text) × (r.at ≡ 0))
new_once text x y p q = reader_same x y (once p.0 q.0) (once p.1 q.1)

pub moved_once : (r : Reader) (at : ℕ) → OnlyOne (λ (q : Reader). (q.text ≡ r.text) × (q.at ≡ at))
moved_once r at x y p q = reader_same x y (once p.0 q.0) (once p.1 q.1)

pub next_line_once : (r : Reader) → OnlyOne (λ (s : Option Span). s ≡ line_at r.text.now r.at)
next_line_once r x y p q = once p q

pub next_field_once : (r : Reader) (stop : ℕ) → OnlyOne (λ (s : Option Span). s ≡ field_at r.text.now r.at stop)
next_field_once r stop x y p q = once p q

-- a span, and the reader moved behind it
both_once : (r : Reader) (d x y : Option Span) (b c : Reader) → x ≡ d → y ≡ d → b ≡ moved_behind r x → c ≡ moved_behind r y → (x ≡ y) × (b ≡ c)
both_once r d x y b c p q k l = (once p q, k ∙ ap (λ (s : Option Span). moved_behind r s) (once p q) ∙ sym l)

pub read_line_once : (r : Reader) → OnlyTwo (λ (s : Option Span) (r' : Reader). (s ≡ line_at r.text.now r.at) × (r' ≡ moved_behind r s))
read_line_once r x b y c p q = both_once r (line_at r.text.now r.at) x y b c p.0 q.0 p.1 q.1

pub read_field_once : (r : Reader) (stop : ℕ) → OnlyTwo (λ (s : Option Span) (r' : Reader). (s ≡ field_at r.text.now r.at stop) × (r' ≡ moved_behind r s))
read_field_once r stop x b y c p q = both_once r (field_at r.text.now r.at stop) x y b c p.0 q.0 p.1 q.1

pub second_line_once : (text : List ℕ) → OnlyOne (λ (s : Option Span). s ≡ second_line text)
second_line_once text x y p q = once p q
