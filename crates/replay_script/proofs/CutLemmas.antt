-- Where a number and a space stand in front, they stand there in one way.
use Rattle.std.proofs.Common.{◌≡◌, ◌≢◌, ℕ, ◌^◌, ◌<◌, ◌≤◌, List, ◌∷◌, ◌++◌, sym, refl, ap, subst, ◌∙◌, arith, codes, decimal}
use Rattle.std.specs.Prelude.{Option, None, Some, IsSome, IfSome, MatchOption, ◌↔◌}
use Rattle.std.proofs.lemmas.Fmt.{decimal_injective}
use Rattle.std.proofs.lemmas.List.{append_cancel_left}
use Rattle.text_forms.specs.Bounds.{Bounds, AreBounds}
use Rattle.text_forms.specs.Layout.{most_bits}
use Rattle.atomic_steps.specs.declared.steps.Step.{Step}
use Rattle.replay_script.specs.Script.{HasWords, step_words, Spells, SpellsBuckets, SpellsLimits}
use Rattle.text_forms.proofs.Cuts.{Lacks, first_byte}
use Rattle.text_forms.proofs.NumberLemmas.{decimal_byte}

pub decimal_no_space : (n : ℕ) → n < 2 ^ 64 → Lacks 32 (decimal n)
decimal_no_space n small i h e = absurd (omega (arith, (decimal_byte n small i h).0))

-- what stands before the first space is the number, if one does
pub cut_number : (bs a xs : List ℕ) → Lacks 32 a → bs ≡ a ++ (32 ∷ xs) → (n : ℕ) (ys : List ℕ) → n < 2 ^ 64 → bs ≡ decimal n ++ (32 ∷ ys) → (a ≡ decimal n) × (xs ≡ ys)
cut_number bs a xs none e n ys small d = first_byte 32 a (decimal n) xs ys none (decimal_no_space n small) (sym e ∙ d)

-- two such numbers are one
pub cut_once : (bs : List ℕ) (m n : ℕ) (xs ys : List ℕ) → m < 2 ^ 64 → n < 2 ^ 64 → bs ≡ decimal m ++ (32 ∷ xs) → bs ≡ decimal n ++ (32 ∷ ys) → (m ≡ n) × (xs ≡ ys)
cut_once bs m n xs ys p q d e =
    let same = cut_number bs (decimal m) xs (decimal_no_space m p) d n ys q e in
    (decimal_injective m n p q same.0, same.1)

-- what no words behind the party's number spell, the line doesn't
pub no_step_line : (line words : List ℕ) (party : ℕ) → party < 2 ^ 32 → line ≡ decimal party ++ (32 ∷ words) → ((s : Step) → HasWords s → words ≢ step_words s) → (s : ℕ × Step) → Spells line s → ⊥
no_step_line line words party small e none s spells =
    none s.1 spells.0.2 (cut_once line party s.0 words (step_words s.1) (omega arith) (omega (arith, spells.0.1)) e spells.1).1

-- the two numbers of the limits
pub limits_cut : (line rest : List ℕ) (holders : ℕ) → holders < 2 ^ 64 → line ≡ codes "limits " ++ (decimal holders ++ (32 ∷ rest)) → (l : Bounds) → SpellsLimits line l → (holders ≡ l.holders) × (rest ≡ decimal l.serials)
limits_cut line rest holders small e l spells =
    cut_once (decimal holders ++ (32 ∷ rest)) holders l.holders rest (decimal l.serials) small (omega (arith, spells.0.1)) refl (append_cancel_left (codes "limits ") _ _ (sym e ∙ spells.1))

-- what `Limits::new` answers to them
pub limits_made : (line : List ℕ) (holders serials : ℕ) → holders < 2 ^ 64 → serials < 2 ^ 64 → line ≡ codes "limits " ++ (decimal holders ++ (32 ∷ decimal serials))
    → (r : Option Bounds) → IsSome r ↔ AreBounds holders serials → IfSome r (λ l. l ≡ record { holders = holders; serials = serials })
    → MatchOption r ((l : Bounds) → SpellsLimits line l → ⊥) (λ l. SpellsLimits line l)
limits_made line h s p q e None range is = λ l spells.
    let cut = limits_cut line (decimal s) h p e l spells in
    let same : s ≡ l.serials = decimal_injective s l.serials q (omega (arith, spells.0.3)) cut.1 in
    let some = range.1 (omega (arith, spells.0.0, cut.0), omega (arith, spells.0.1, cut.0), omega (arith, spells.0.2), omega (arith, spells.0.3)) in
    cc
limits_made line h s p q e (Some l) range is =
    (subst (λ v. AreBounds v.holders v.serials) (sym is) (range.0 refl), e ∙ ap (λ v. codes "limits " ++ (decimal v.holders ++ (32 ∷ decimal v.serials))) (sym is))

-- what `Buckets::new` answers to the number
pub buckets_made : (line : List ℕ) (bits : ℕ) → bits < 2 ^ 64 → line ≡ codes "buckets " ++ decimal bits → (r : Option ℕ) → IsSome r ↔ (bits ≤ most_bits) → IfSome r (λ b. b ≡ bits)
    → MatchOption r ((b : ℕ) → SpellsBuckets line b → ⊥) (λ b. SpellsBuckets line b)
buckets_made line bits small e None range is = λ b spells.
    let same = decimal_injective bits b small (omega (arith, spells.0)) (append_cancel_left (codes "buckets ") _ _ (sym e ∙ spells.1)) in
    let some = range.1 (omega (arith, spells.0, same)) in
    cc
buckets_made line bits small e (Some b) range is = (subst (λ (n : ℕ). n ≤ most_bits) (sym is) (range.0 refl), e ∙ ap (λ (n : ℕ). codes "buckets " ++ decimal n) (sym is))
