-- The steps on a log of cells, which only grows, in what is owned. Assumes `Logic`.
use Rattle.std.proofs.Common.{◌≡◌, ◌≢◌, ℕ, List, [], ◌∷◌, ◌++◌, refl, ap}
use Rattle.std.specs.List.{AllByRecursion}
use mathlib.Core.Logic.{dite}
use mathlib.Core.List.{IsPrefix}
use native.Mathlib.Decide.{ℕ_discrete}
use seplogic.Ra.Ura.{Ura}
use base.Fraction.{full_share}
use base.Logic.{SProp, ent, sep, wand, ex, guard, emp, via, apply∗, never, never_e}
use base.Fml.{Lft, Share, Fml, ftrue, fdead, flft, fbor}
use base.Growing.{latest, at_least, prefix_refl}
use base.Shift.{Keyless}
use types.Logic.{Logic, sem, lfts}
use types.Owned.{basic}
use types.Growing.{latest_new, latest_grows, latest_shows, latest_bounds, at_least_dup, at_least_join}
use types.Kit.{‵, raw, ◌⊛◌, some, given, later, ◌$◌, ◌∵◌, !, qed, by, move, keep, drop, split, fsplit, fjoin, pick, learn, check, frame, show, use0, use1, use2, updating, await, now, rewrite, done}
use denote.Sharing.{said}
use denote.Steps.{nothing}
use denote.Struct.Lending.{Lends}
use Rattle.counted_cell.specs.Counting.{CellName}
use Rattle.counted_cell.specs.CellLog.{Entry, rows, all_gone, log_owns, seen_owns}

module _ {M : Type 1} {𝓤 : Ura M} (𝓛 : Logic 𝓤) where
  open 𝓛 use {H, A}

  abbrev Pr : Type 2
  Pr = SProp 𝓤

  abbrev ◌⊢◌ : Pr → Pr → Type 1
  P ⊢ Q = ent 𝓤 P Q

  abbrev ◌∗◌ : Pr → Pr → Pr
  P ∗ Q = sep 𝓤 P Q

  abbrev ⟦◌⟧ : Fml → Pr
  ⟦ P ⟧ = sem 𝓛 P

  infix 26 ◌⊢◌
  infixr 35 ◌∗◌
  gone_twice : (g : List CellName) → ⟦ all_gone g ⟧ ⊢ ⟦ all_gone g ⟧ ∗ ⟦ all_gone g ⟧
  gone_twice [] = qed 𝓛 (‵ ftrue ∷ []) ∵ nothing ! $ done !
  gone_twice (t ∷ ts) = qed 𝓛 (‵ (all_gone (t ∷ ts)) ∷ []) ∵ fsplit ! $ use1 𝓛 (‵ (fdead (t.share_life ∷ [])) ⊛ ‵ (fdead (t.share_life ∷ []))) (𝓛.lfts.dead_dup (t.share_life ∷ [])) $ split ! $ move ! (2 ∷ []) $
      use1 𝓛 (‵ (all_gone ts) ⊛ ‵ (all_gone ts)) (gone_twice ts) $ split ! $ move ! (2 ∷ 0 ∷ []) $ fjoin ! $ frame ! $ move ! (1 ∷ 0 ∷ []) $ fjoin ! $ done !

  pub seen_twice : (γ : ℕ) (es : List Entry) (g : List CellName) → ⟦ seen_owns γ es g ⟧ ⊢ ⟦ seen_owns γ es g ⟧ ∗ ⟦ seen_owns γ es g ⟧
  seen_twice γ es g = qed 𝓛 (‵ (seen_owns γ es g) ∷ []) ∵ fsplit ! $ use1 𝓛 (‵ (at_least rows γ es) ⊛ ‵ (at_least rows γ es)) (at_least_dup rows 𝓛 γ es) $ split ! $ move ! (2 ∷ []) $
      use1 𝓛 (‵ (all_gone g) ⊛ ‵ (all_gone g)) (gone_twice g) $ split ! $ move ! (2 ∷ 0 ∷ []) $ fjoin ! $ frame ! $ move ! (1 ∷ 0 ∷ []) $ fjoin ! $ done !

  pub begins : emp 𝓤 ⊢ H.⇛ (ex 𝓤 (λ (γ : ℕ). ⟦ log_owns γ [] [] ⟧))
  begins = qed 𝓛 [] ∵ updating ! $ use0 𝓛 (later (some (λ (γ : ℕ). ‵ (latest rows full_share γ [])))) (via 𝓤 _ (latest_new rows 𝓛 []) (basic 𝓛 _)) $ await ! tt $ pick ! (λ γ.
      now ! $ show ! (λ (k : ℕ). ⟦ log_owns k [] [] ⟧) γ $ nothing ! $ move ! (1 ∷ 0 ∷ []) $ fjoin ! $ done !)

  pub adds : (γ : ℕ) (es : List Entry) (g : List CellName) (e : Entry) → ⟦ log_owns γ es g ⟧ ⊢ H.⇛ ⟦ log_owns γ (es ++ e ∷ []) g ⟧
  adds γ es g e = qed 𝓛 (‵ (log_owns γ es g) ∷ []) ∵ updating ! $ fsplit ! $ use1 𝓛 (later (‵ (latest rows full_share γ (es ++ e ∷ [])))) (via 𝓤 _ (latest_grows rows 𝓛 γ es (es ++ e ∷ []) (e ∷ [], refl)) (basic 𝓛 _)) $ await ! tt $
      now ! $ fjoin ! $ done !

  pub buries : (γ : ℕ) (es : List Entry) (g : List CellName) (t : CellName) → ⟦ log_owns γ es g ⟧ ∗ A.dead (t.share_life ∷ []) ⊢ ⟦ log_owns γ es (t ∷ g) ⟧
  buries γ es g t = qed 𝓛 (‵ (log_owns γ es g) ∷ ‵ (fdead (t.share_life ∷ [])) ∷ []) ∵ fsplit ! $ move ! (2 ∷ 1 ∷ []) $ fjoin ! $ move ! (1 ∷ 0 ∷ []) $ fjoin ! $ done !

  pub shows : (γ : ℕ) (es : List Entry) (g : List CellName) → ⟦ log_owns γ es g ⟧ ⊢ ⟦ log_owns γ es g ⟧ ∗ ⟦ seen_owns γ es g ⟧
  shows γ es g = qed 𝓛 (‵ (log_owns γ es g) ∷ []) ∵ fsplit ! $ use1 𝓛 (‵ (latest rows full_share γ es) ⊛ ‵ (at_least rows γ es)) (latest_shows rows 𝓛 full_share γ es es (prefix_refl es)) $ split ! $ move ! (2 ∷ []) $
      use1 𝓛 (‵ (all_gone g) ⊛ ‵ (all_gone g)) (gone_twice g) $ split ! $ move ! (2 ∷ 0 ∷ []) $ fjoin ! $ frame ! $ move ! (1 ∷ 0 ∷ []) $ fjoin ! $ done !

  abbrev pub Both : List Entry → List Entry → Type 0
  Both a b = (c : List Entry) × IsPrefix a c × IsPrefix b c

  pub meets : (γ : ℕ) (a b : List Entry) (g h : List CellName) → ⟦ seen_owns γ a g ⟧ ∗ ⟦ seen_owns γ b h ⟧ ⊢ guard 𝓤 (Both a b) ⟦ ftrue ⟧
  meets γ a b g h = qed 𝓛 (‵ (seen_owns γ a g) ∷ ‵ (seen_owns γ b h) ∷ []) ∵ fsplit ! $ move ! (2 ∷ []) $ fsplit ! $ keep ! (2 ∷ 0 ∷ []) $
      use2 𝓛 (some (λ (c : List Entry). given (base.Growing.Least rows.le a b c) (‵ (at_least rows γ c)))) (at_least_join rows 𝓛 γ a b) $ pick ! (λ c. learn ! (λ l. check ! (c, l.0, l.1) $ drop ! $ nothing ! $ done !))

  pub meets_if : (γ δ : ℕ) (a b : List Entry) (g h : List CellName) → ⟦ seen_owns γ a g ⟧ ∗ ⟦ seen_owns δ b h ⟧ ⊢ guard 𝓤 (δ ≡ γ → Both a b) ⟦ ftrue ⟧
  meets_if γ δ a b g h = dite (ℕ_discrete δ γ)
      (λ same. qed 𝓛 (‵ (seen_owns γ a g) ∷ ‵ (seen_owns δ b h) ∷ []) ∵ rewrite ! 1 (λ (n : ℕ). ‵ (seen_owns n b h)) same refl $
      use2 𝓛 (given (Both a b) (‵ ftrue)) (meets γ a b g h) $ learn ! (λ both. check ! (λ _. both) $ done !))
      (λ other. qed 𝓛 (‵ (seen_owns γ a g) ∷ ‵ (seen_owns δ b h) ∷ []) ∵ check ! (λ e. absurd (other e)) $ drop ! $ drop ! $ nothing ! $ done !)

  -- a log begins with what was seen of it
  bounds : (γ : ℕ) (es a : List Entry) (g h : List CellName) → ⟦ log_owns γ es g ⟧ ∗ ⟦ seen_owns γ a h ⟧ ⊢ guard 𝓤 (IsPrefix a es) ⟦ log_owns γ es g ⟧
  bounds γ es a g h = qed 𝓛 (‵ (log_owns γ es g) ∷ ‵ (seen_owns γ a h) ∷ []) ∵ fsplit ! $ move ! (2 ∷ []) $ fsplit ! $ move ! (2 ∷ 0 ∷ []) $
      use2 𝓛 (given (IsPrefix a es) (‵ (latest rows full_share γ es) ⊛ ‵ (at_least rows γ a))) (latest_bounds rows 𝓛 full_share γ es a) $ learn ! (λ is. check ! is $ split ! $ keep ! (0 ∷ 3 ∷ []) $ fjoin ! $ done !)

  pub bounds_if : (γ δ : ℕ) (es a : List Entry) (g h : List CellName) → ⟦ log_owns γ es g ⟧ ∗ ⟦ seen_owns δ a h ⟧ ⊢ guard 𝓤 (δ ≡ γ → IsPrefix a es) ⟦ log_owns γ es g ⟧
  bounds_if γ δ es a g h = dite (ℕ_discrete δ γ)
      (λ same. qed 𝓛 (‵ (log_owns γ es g) ∷ ‵ (seen_owns δ a h) ∷ []) ∵ rewrite ! 1 (λ (n : ℕ). ‵ (seen_owns n a h)) same refl $
      use2 𝓛 (given (IsPrefix a es) (‵ (log_owns γ es g))) (bounds γ es a g h) $ learn ! (λ is. check ! (λ _. is) $ done !))
      (λ other. qed 𝓛 (‵ (log_owns γ es g) ∷ ‵ (seen_owns δ a h) ∷ []) ∵ check ! (λ e. absurd (other e)) $ keep ! (0 ∷ []) $ done !)

  pub none_of : (g : List CellName) (t : CellName) (q : Share) → ⟦ all_gone g ⟧ ∗ A.lft (t.share_life ∷ []) q ⊢ guard 𝓤 (AllByRecursion (λ u. u ≢ t) g) (A.lft (t.share_life ∷ []) q)
  none_of [] t q = qed 𝓛 (‵ ftrue ∷ ‵ (flft (t.share_life ∷ []) q) ∷ []) ∵ check ! tt $ drop ! $ done !
  none_of (u ∷ us) t q = qed 𝓛 (‵ (all_gone (u ∷ us)) ∷ ‵ (flft (t.share_life ∷ []) q) ∷ []) ∵ fsplit ! $ move ! (1 ∷ 2 ∷ []) $
      use2 𝓛 (given (AllByRecursion (λ v. v ≢ t) us) (‵ (flft (t.share_life ∷ []) q))) (none_of us t q) $ learn ! (λ rest.
      dite (ℕ_discrete u.share_life t.share_life)
      (λ same. move ! (1 ∷ []) $ rewrite ! 0 (λ (k : ℕ). ‵ (fdead (k ∷ []))) same refl $ move ! (1 ∷ 0 ∷ []) $ by ! (via 𝓤 (never 𝓤) (𝓛.lfts.lft-dead (t.share_life ∷ []) q) (never_e 𝓤 _)))
      (λ other. check ! ((λ e. other (ap (λ (v : CellName). v.share_life) e)), rest) $ keep ! (0 ∷ []) $ done !))

  pub lends_twice : (P : Fml) → ⟦ P ⟧ ⊢ ⟦ P ⟧ ∗ ⟦ P ⟧ → (l : Lft) → Lends 𝓛 P (said P) l
  lends_twice P twice l κ ts inc sp = let Back = 𝓛.H.⇛ (sep 𝓤 (𝓛.A.bor κ P) (lfts 𝓛 ts)) in
      qed 𝓛 (‵ (fbor κ P) ∷ raw (lfts 𝓛 ts) ∷ []) ∵ updating ! $ use2 𝓛 (later (‵ P ⊛ raw (wand 𝓤 (sem 𝓛 P) Back))) (𝓛.more.bor_acc_by κ ts P sp) $ await ! tt $ split ! $ use1 𝓛 (‵ P ⊛ ‵ P) twice $ split ! $ move ! (0 ∷ 2 ∷ []) $
      use2 𝓛 (later (‵ (fbor κ P) ⊛ raw (lfts 𝓛 ts))) (apply∗ 𝓤 (sem 𝓛 P) Back) $ await ! tt $ split ! $ drop ! $ move ! (1 ∷ 0 ∷ []) $ now ! $ done !

pub gone_keyless : (g : List CellName) → Keyless (all_gone g)
gone_keyless [] = tt
gone_keyless (t ∷ ts) = (tt, gone_keyless ts)

pub log_keyless : (γ : ℕ) (es : List Entry) (g : List CellName) → Keyless (log_owns γ es g)
unfolding latest
log_keyless γ es g = (tt, gone_keyless g)

pub seen_keyless : (γ : ℕ) (es : List Entry) (g : List CellName) → Keyless (seen_owns γ es g)
unfolding at_least
seen_keyless γ es g = (tt, gone_keyless g)
