-- Which command two texts and three texts ask for.
use Rattle.std.proofs.Common.{◌≡◌, ◌≢◌, ℕ, List, [], ◌∷◌, Some, None, sym, refl, ◌∙◌, codes, decimal, arith}
use Rattle.std.proofs.lemmas.Fmt.{decimal_injective}
use Rattle.commands.specs.Commands.{Asks, AsksFor, InRange}
use Rattle.commands.specs.declared.program.Command.{Command}
use Rattle.commands.specs.declared.program.Command.TheVariants.{Words, Count, Replay, Generate, Check}

module _ (word number : List ℕ) where
  -- two texts ask for nothing but `count`, which has its number from the second
  count_alone : (command : Command) → Asks (word ∷ number ∷ []) command → (n : ℕ) × (command ≡ Count n) × (number ≡ decimal n) × InRange (Count n)
  count_alone Words asked = cc asked.0
  count_alone (Count n) asked = (n, refl, cc asked.0, asked.1)
  count_alone Replay asked = cc asked.0
  count_alone (Generate key bound) asked = cc asked.0
  count_alone Check asked = cc asked.0

  -- they ask for it where the second spells a number of workers
  pub counts : (n : ℕ) → word ≡ codes "count" → number ≡ decimal n → InRange (Count n) → AsksFor (word ∷ number ∷ []) (Some (Count n))
  counts n named spelt within = record {
    asked = λ command asked.
        let only = count_alone command asked in
        let same : n ≡ only.0 = decimal_injective n only.0 (omega (arith, within)) (omega (arith, only.3)) (sym spelt ∙ only.2) in
        cc;
    asks = (cc, within);
  }

  -- they ask for nothing where the second spells none
  pub counts_nothing : ((n : ℕ) → InRange (Count n) → number ≢ decimal n) → AsksFor (word ∷ number ∷ []) None
  counts_nothing none = record { asked = λ command asked. let only = count_alone command asked in absurd (none only.0 only.3 only.2); asks = tt }

module _ (word first second : List ℕ) where
  -- three texts ask for nothing but `generate`, which has its numbers from the others
  generate_alone : (command : Command) → Asks (word ∷ first ∷ second ∷ []) command
      → (key : ℕ) × (bound : ℕ) × (command ≡ Generate key bound) × (first ≡ decimal key) × (second ≡ decimal bound) × InRange (Generate key bound)
  generate_alone Words asked = cc asked.0
  generate_alone (Count n) asked = cc asked.0
  generate_alone Replay asked = cc asked.0
  generate_alone (Generate key bound) asked = (key, bound, refl, cc asked.0, cc asked.0, asked.1)
  generate_alone Check asked = cc asked.0

  -- they ask for it where the others spell a key and a bound
  pub generates : (key bound : ℕ) → word ≡ codes "generate" → first ≡ decimal key → second ≡ decimal bound → InRange (Generate key bound) → AsksFor (word ∷ first ∷ second ∷ []) (Some (Generate key bound))
  generates key bound named spelt_first spelt_second within = record {
    asked = λ command asked.
        let only = generate_alone command asked in
        let same : key ≡ only.0 = decimal_injective key only.0 within.0 only.5.0 (sym spelt_first ∙ only.3) in
        let so : bound ≡ only.1 = decimal_injective bound only.1 (omega (arith, within)) (omega (arith, only.5)) (sym spelt_second ∙ only.4) in
        cc;
    asks = (cc, within);
  }
