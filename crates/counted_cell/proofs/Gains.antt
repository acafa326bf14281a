-- What a step on the count has gained, as the right of the reference that it gives. Assumes `Logic`.
use Rattle.std.proofs.Common.{◌≡◌, ◌≢◌, ℕ, ◌+◌, ◌<◌, ◌^◌, Bool, true, false, [], ◌∷◌, refl}
use seplogic.Ra.Ura.{Ura}
use base.Logic.{SProp, ent, sep, ex, guard}
use base.Fml.{Lft, Fml, ftrue, fsep, finv}
use types.Logic.{Logic, sem}
use types.Kit.{‵, ◌$◌, ◌∵◌, !, qed, move, keep, drop, fsplit, fsplit3, fjoin, fjoin3, fpick, show, check, done}
use denote.RattleType.{RattleType}
use Rattle.counted_cell.specs.Counting.{CellName, Right, no_right, share_right, sole_right, permit_right, Inv, shown, right_to}
use Rattle.counted_cell.proofs.Steps.{over, won}

-- the right, where it was gained
abbrev pub rank : Right → Bool → Right
rank k true = k
rank k false = no_right

-- that of an addition: a share's, or the permit again
abbrev pub risen : Bool → Right
risen true = share_right
risen false = permit_right

module _ {M : Type 1} {𝓤 : Ura M} (𝓛 : Logic 𝓤) (R : RattleType) (b o : ℕ) (x : R.Denot) (t : CellName) where
  pub ended : (n : ℕ) (y : Bool) → ent 𝓤 (sem 𝓛 (over 𝓛 b (o + 0) t n y)) (guard 𝓤 ((n ≡ 0 → rank sole_right y ≡ sole_right) × (n ≢ 0 → rank sole_right y ≡ no_right)) (sem 𝓛 (right_to R b o x t 0 (rank sole_right y))))
  ended n true = qed 𝓛 (‵ (over 𝓛 b (o + 0) t n true) ∷ []) ∵ fsplit ! $ fpick ! (λ z. drop ! $ check ! ((λ _. refl), (λ some. absurd (some z))) $ done !)
  ended n false = qed 𝓛 (‵ (over 𝓛 b (o + 0) t n false) ∷ []) ∵ fpick ! (λ some. check ! ((λ z. absurd (some z)), (λ _. refl)) $ done !)

  -- what each holder can copy, with the parts and the number that were gained
  module _ (seen : ℕ) (pos : 0 < seen) (room : seen + 2 < 2 ^ 64) (below : seen < t.limit) (i : ℕ) (s : base.Fml.Share) (n : ℕ) where
    abbrev pub Told : Right → ℕ → Type 0
    Told k number = (n ≡ seen → k ≡ share_right) × (n ≢ seen → (k ≡ permit_right) × (number ≡ i))

    abbrev pub Gained : Right → ℕ → SProp 𝓤
    Gained k number = guard 𝓤 (Told k number) (sem 𝓛 (right_to R b o x t number k))

    pub raised : (y : Bool) → ent 𝓤 (sep 𝓤 (sem 𝓛 (won 𝓛 b (o + 0) t s seen pos room below i n y)) (sep 𝓤 (sem 𝓛 (finv (Inv t b (o + 0)))) (sem 𝓛 (shown R b o x t (t.value_life ∷ []))))) (ex 𝓤 (Gained (risen y)))
    raised true = qed 𝓛 (‵ (won 𝓛 b (o + 0) t s seen pos room below i n true) ∷ ‵ (finv (Inv t b (o + 0))) ∷ ‵ (shown R b o x t (t.value_life ∷ [])) ∷ []) ∵
        fsplit3 ! $ fpick ! (λ z. drop ! $ move ! (1 ∷ []) $ fsplit ! $ move ! (1 ∷ []) $ fpick ! (λ number. show ! (Gained share_right) number $ check ! ((λ _. refl), (λ some. absurd (some z))) $
        -- [the ticket; c's part; a's part; the invariant; what is shown]
        move ! (1 ∷ 0 ∷ []) $ fjoin ! $ move ! (1 ∷ 2 ∷ 3 ∷ []) $ fjoin3 ! $ fjoin ! $ done !))
    raised false = qed 𝓛 (‵ (won 𝓛 b (o + 0) t s seen pos room below i n false) ∷ ‵ (finv (Inv t b (o + 0))) ∷ ‵ (shown R b o x t (t.value_life ∷ [])) ∷ []) ∵
        fsplit ! $ fpick ! (λ some. show ! (Gained permit_right) i $ check ! ((λ z. absurd (some z)), (λ _. (refl, refl))) $ keep ! (1 ∷ []) $ done !)
