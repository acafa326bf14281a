-- A script of steps: its lines, and what each spells.
use Rattle.std.specs.Prelude.{◌≡◌, ℕ, ◌+◌, ◌-◌, ◌^◌, ◌<◌, ◌≤◌, ◌==◌, ◌⊎◌, true, false, if◌then◌else◌, List, [], ◌∷◌, ◌++◌, length, codes, decimal, string_bytes, Option, None, Some}
use Rattle.text_forms.specs.Bounds.{Bounds, AreBounds}
use Rattle.atomic_steps.specs.declared.steps.Step.{Step}
use Rattle.atomic_steps.specs.declared.steps.Step.TheVariants.{TakeIntern, TakeSweep, Add, Link, Clone, Give, Unlink, Free, Leave}
use Rattle.text_forms.specs.Layout.{holder_bound, most_bits, serial_bound, usual_bits}
use Rattle.atomic_steps.specs.Runs.{Script}

-- b, in front of the first line
abbrev pub cons_first : ℕ → List (List ℕ) → List (List ℕ)
cons_first b [] = (b ∷ []) ∷ []
cons_first b (line ∷ lines) = (b ∷ line) ∷ lines

-- the lines: each ends with a line feed, which the last may lack
abbrev pub script_lines : List ℕ → List (List ℕ)
script_lines [] = []
script_lines (b ∷ bs) = if b == 10 then [] ∷ script_lines bs else cons_first b (script_lines bs)

-- ---- what a line spells

-- the words of a step
abbrev pub step_words : Step → List ℕ
step_words (TakeIntern text) = codes "intern " ++ string_bytes text
step_words (TakeSweep bucket) = codes "sweep " ++ decimal bucket
step_words (Add e) = codes "add e" ++ decimal e
step_words (Link true) = codes "link"
step_words (Link false) = codes "link noroom"
step_words (Clone e) = codes "clone e" ++ decimal e
step_words (Give e) = codes "give e" ++ decimal e
step_words (Unlink e) = codes "unlink e" ++ decimal e
step_words (Free e) = codes "free e" ++ decimal e
step_words Leave = codes "leave"

-- the line of a party's step
abbrev pub step_line : ℕ × Step → List ℕ
step_line s = decimal s.0 ++ (codes " " ++ step_words s.1)

-- entries are numbered from 1
abbrev pub IsEntryNumber : ℕ → Type 0
IsEntryNumber e = (1 ≤ e) × (e < 2 ^ 64)

-- a text isn't empty, and a number is in its range
abbrev pub HasWords : Step → Type 0
HasWords (TakeIntern text) = 0 < length (string_bytes text)
HasWords (TakeSweep bucket) = bucket < 2 ^ 32
HasWords (Add e) = IsEntryNumber e
HasWords (Link room) = Unit {0}
HasWords (Clone e) = IsEntryNumber e
HasWords (Give e) = IsEntryNumber e
HasWords (Unlink e) = IsEntryNumber e
HasWords (Free e) = IsEntryNumber e
HasWords Leave = Unit {0}

-- parties are numbered from 1
abbrev pub HasLine : ℕ × Step → Type 0
HasLine s = (1 ≤ s.0) × (s.0 < 2 ^ 32) × HasWords s.1

-- the line spells the step
abbrev pub Spells : List ℕ → ℕ × Step → Type 0
Spells line s = HasLine s × (line ≡ step_line s)

-- the line of limits
abbrev pub limits_line : Bounds → List ℕ
limits_line limits = codes "limits " ++ (decimal limits.holders ++ (codes " " ++ decimal limits.serials))

-- the line spells limits
abbrev pub SpellsLimits : List ℕ → Bounds → Type 0
SpellsLimits line limits = AreBounds limits.holders limits.serials × (line ≡ limits_line limits)

-- the line of the number of buckets with this number of bits
abbrev pub buckets_line : ℕ → List ℕ
buckets_line bits = codes "buckets " ++ decimal bits

-- the line spells the number of buckets with this number of bits
abbrev pub SpellsBuckets : List ℕ → ℕ → Type 0
SpellsBuckets line bits = (bits ≤ most_bits) × (line ≡ buckets_line bits)

-- ---- what the lines spell

-- one step per line, in order
abbrev pub SpellSteps : List (List ℕ) → Script → Type 0
SpellSteps [] [] = Unit {0}
SpellSteps [] (s ∷ steps) = ⊥
SpellSteps (line ∷ lines) [] = ⊥
SpellSteps (line ∷ lines) (s ∷ steps) = Spells line s × SpellSteps lines steps

-- the limits if there is no line of limits: both at their greatest
abbrev pub greatest : Bounds
greatest = record { holders = holder_bound - 1; serials = serial_bound - 1 }

-- The lines spell a number of buckets and steps: the number is in the first line, or there is none.
abbrev pub SpellBody : List (List ℕ) → ℕ → Script → Type 0
SpellBody lines bits steps = ((bits ≡ usual_bits) × SpellSteps lines steps)
    ⊎ ((line : List ℕ) × (rest : List (List ℕ)) × (lines ≡ line ∷ rest) × SpellsBuckets line bits × SpellSteps rest steps)

-- The lines spell limits, a number of buckets and steps: the limits are in the first line, or there are none.
abbrev pub SpellScript : List (List ℕ) → Bounds → ℕ → Script → Type 0
SpellScript lines limits bits steps = ((limits ≡ greatest) × SpellBody lines bits steps)
    ⊎ ((line : List ℕ) × (rest : List (List ℕ)) × (lines ≡ line ∷ rest) × SpellsLimits line limits × SpellBody rest bits steps)

-- Either the first line of a text spells something, by Spelt, and the rest of the text is left, or it spells nothing of the kind, and the whole text
-- is left.
abbrev pub Takes : {X : Type 0} → (List ℕ → X → Type 0) → List ℕ → Option X → List ℕ → Type 0
Takes {X} Spelt text None rest =
    ((line : List ℕ) (lines : List (List ℕ)) (x : X) → script_lines text ≡ line ∷ lines → Spelt line x → ⊥)
    × (rest ≡ text)
Takes Spelt text (Some x) rest =
    ((line : List ℕ) × (script_lines text ≡ line ∷ script_lines rest) × Spelt line x)
    × (length rest < length text)

-- each line spells a step
abbrev pub AreSteps : List (List ℕ) → Type 0
AreSteps lines = (steps : Script) × SpellSteps lines steps

-- Line n is the first of these lines that spells no step, counting the first of them as line `passed + 1`.
pub record StopsAfter (lines : List (List ℕ)) (passed n : ℕ) : Type 0 where
  pub before : List (List ℕ)
  pub line : List ℕ
  pub after : List (List ℕ)
  pub is : lines ≡ before ++ (line ∷ after)
  pub number : n ≡ passed + length before + 1
  pub steps : Script
  pub good : SpellSteps before steps
  pub bad : (s : ℕ × Step) → Spells line s → ⊥

-- Line n, counted from 1, is the first that the grammar doesn't allow where it is: the lines before it spell a script, and with this line they spell
-- none.
pub record IsFirstBadLine (lines : List (List ℕ)) (n : ℕ) : Type 0 where
  pub before : List (List ℕ)
  pub line : List ℕ
  pub after : List (List ℕ)
  pub is : lines ≡ before ++ (line ∷ after)
  pub number : n ≡ length before + 1
  pub limits : Bounds
  pub bits : ℕ
  pub steps : Script
  pub good : SpellScript before limits bits steps
  pub bad : (l : Bounds) (b : ℕ) (s : Script) → SpellScript (before ++ (line ∷ [])) l b s → ⊥
