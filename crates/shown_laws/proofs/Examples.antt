-- Lines as they are printed, by computation. Assumes nothing.
use mathlib.Core.Path.{◌≡◌, refl}
use mathlib.Core.List.{[], ◌∷◌, ◌++◌}
use Rattle.page.specs.Spelt.{spelt}
use Rattle.page.specs.Numbers.{places_from, decimal}
use Rattle.line_parts.specs.Parts.{spaced}
use Rattle.refusal_words.specs.Words.{entry, table, words_of}
use Rattle.shown.specs.Lines.{plan_head, plan_lists, plan_empty, refusal_line, clock_back, withdrawn_line, setting_line, bank_line, table_line, expectations, wrong_line, unreadable_line}

a_plan : plan_head 9 5 2 4 12 ++ plan_lists (4 ∷ 4 ∷ []) (3 ∷ 5 ∷ []) ≡ spelt "9,plan,second 5,sequences 2,draws 4,slots 12,drafts 4 4,commits 3 5\n"
unfolding places_from decimal spaced plan_head plan_lists
a_plan = refl

no_plan : plan_empty 9 ≡ spelt "9,plan,empty\n"
unfolding places_from decimal plan_empty
no_plan = refl

a_refusal : refusal_line 10 13 0 ≡ spelt "10,refused 13,a needed draw is absent,row 0\n"
unfolding places_from decimal entry table words_of refusal_line
a_refusal = refl

no_refusals_number : refusal_line 10 22 0 ≡ spelt "10,refused 22,unknown,row 0\n"
unfolding places_from decimal entry table words_of refusal_line
no_refusals_number = refl

the_clock_goes_back : clock_back 11 3600 7200 ≡ spelt "11,note,clock went back 3600 s: seconds 7200.. are counted again\n"
unfolding places_from decimal clock_back
the_clock_goes_back = refl

a_withdrawal : withdrawn_line 15 ≡ spelt "15,withdraw,done\n"
unfolding places_from decimal withdrawn_line
a_withdrawal = refl

a_setting : setting_line 1 (spelt "gamma") ≡ spelt "1,gamma,set\n"
unfolding places_from decimal setting_line
a_setting = refl

a_bank : bank_line 3 65536 64 ≡ spelt "3,acceptance,rounds 65536,depth 64\n"
unfolding places_from decimal bank_line
a_bank = refl

a_table : table_line 7 8 ≡ spelt "7,table,rows 8\n"
unfolding places_from decimal table_line
a_table = refl

a_wrong_line : wrong_line 16 2 5 ≡ spelt "16,wrong,field 2,expected a whole number\n"
unfolding places_from decimal entry expectations wrong_line
a_wrong_line = refl

an_unreadable_file : unreadable_line 17 (spelt "bank.csv") ≡ spelt "17,unreadable,bank.csv\n"
unfolding places_from decimal unreadable_line
an_unreadable_file = refl
