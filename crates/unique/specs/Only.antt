-- What it means that a contract leaves one outcome: the answer, and every lent buffer at exit. Assumes nothing.
use Rattle.std.specs.Prelude.{◌≡◌}

-- of an answer
abbrev pub OnlyOne : {A : Type 0} → (A → Type 0) → Type 0
OnlyOne {A} P = (x y : A) → P x → P y → x ≡ y

-- of an answer and a buffer
abbrev pub OnlyTwo : {A B : Type 0} → (A → B → Type 0) → Type 0
OnlyTwo {A} {B} P = (x : A) (b : B) (y : A) (c : B) → P x b → P y c → (x ≡ y) × (b ≡ c)

-- of an answer and three buffers
abbrev pub OnlyFour : {A B C D : Type 0} → (A → B → C → D → Type 0) → Type 0
OnlyFour {A} {B} {C} {D} P =
    (x : A) (b : B) (c : C) (d : D) (y : A) (b' : B) (c' : C) (d' : D) → P x b c d → P y b' c' d' → (x ≡ y) × (b ≡ b') × (c ≡ c') × (d ≡ d')

-- of an answer and four buffers
abbrev pub OnlyFive : {A B C D E : Type 0} → (A → B → C → D → E → Type 0) → Type 0
OnlyFive {A} {B} {C} {D} {E} P =
    (x : A) (b : B) (c : C) (d : D) (e : E) (y : A) (b' : B) (c' : C) (d' : D) (e' : E) → P x b c d e → P y b' c' d' e'
    → (x ≡ y) × (b ≡ b') × (c ≡ c') × (d ≡ d') × (e ≡ e')
