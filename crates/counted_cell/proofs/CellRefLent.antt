-- What a `&` to a reference has, and how it is lent. Assumes `Logic`.
use Rattle.std.proofs.Common.{ℕ, ◌+◌, [], ◌∷◌}
use seplogic.Ra.Ura.{Ura}
use base.FractionLaws.{Counts}
use base.Logic.{ent, sep, emp, upd_i, id⊢, apply∗, wand}
use base.Fml.{Lft, Share, Fml, ftrue, ffalse, fsep, fseps, fwand, fupd, fdead, fbor, flft, finv}
use contract.BorrowLft.{meet_⊑_left}
use ghost.Rules.{span, thinned}
use types.Logic.{Logic, sem, lfts}
use types.Kit.{‵, raw, ◌⊛◌, some as exists, later, ◌$◌, ◌∵◌, !, qed, by, move, keep, use0, use1, use2, split, fsplit3, fjoin, fjoin3, fpick, pick, assume, suffices, await, updating, now, done}
use types.Tokens.{bor_open, obor_alter, bor_fracture, one_token}
use types.RcWeak.{part, part_in}
use denote.RattleType.{RattleType, RowLaws}
use denote.RawPtr.{Ptr, block_ptr, null_ptr}
use denote.Sharing.{ShrLaws, one, always, held, beside}
use denote.SharingLaws.{contraction, beside_shr_laws, one_shr_laws, always_shr_laws, held_shr_laws, nothing_shr_laws, said_shr_laws}
use denote.Moves.{moves_from}
use denote.Steps.{nothing}
use denote.Struct.Lending.{Lends, Lends-false, Lends-nothing, Lends-first, Lends-both, lent_at_shr_laws}
use Rattle.counted_cell.specs.Counting.{CellName, Right, no_right, owner_right, share_right, sole_right, permit_right, offset, Inv, shown, reads, claim, share_owns, right_to, seen_by, ref_owns, ref_shares}

module _ {M : Type 1} {𝓤 : Ura M} (𝓛 : Logic 𝓤) where
  open 𝓛 use {H, A}

  -- what a borrow becomes at any share of a token of its lifetime
  from_token : (P : Fml) (s : Lft → Fml) → ((κ : Lft) (q : Share) → ent 𝓤 (sep 𝓤 (A.bor κ P) (A.lft κ q)) (H.⇛ (sep 𝓤 (sem 𝓛 (s κ)) (A.lft κ q)))) → (l : Lft) → Lends 𝓛 P s l
  from_token P s by_token l κ ts inc sp = qed 𝓛 (‵ (fbor κ P) ∷ raw (lfts 𝓛 ts) ∷ []) ∵ updating ! $ move ! (1 ∷ []) $
      use1 𝓛 (exists (λ (q : Share). ‵ (flft (span ts) q) ⊛ raw (wand 𝓤 (A.lft (span ts) q) (lfts 𝓛 ts)))) (one_token 𝓛 ts) $ pick ! (λ q. split ! $
      use1 𝓛 (‵ (flft κ (thinned κ q)) ⊛ raw (wand 𝓤 (A.lft κ (thinned κ q)) (A.lft (span ts) q))) (𝓛.lfts.lft-incl (span ts) κ q sp) $ split ! $ move ! (3 ∷ 0 ∷ []) $
      use2 𝓛 (later (‵ (s κ) ⊛ ‵ (flft κ (thinned κ q)))) (by_token κ (thinned κ q)) $ await ! tt $ split ! $ move ! (1 ∷ 2 ∷ []) $
      use2 𝓛 (‵ (flft (span ts) q)) (apply∗ 𝓤 (A.lft κ (thinned κ q)) (A.lft (span ts) q)) $ move ! (0 ∷ 2 ∷ []) $ use2 𝓛 (raw (lfts 𝓛 ts)) (apply∗ 𝓤 (A.lft (span ts) q) (lfts 𝓛 ts)) $
      now ! $ move ! (1 ∷ 0 ∷ []) $ done !)

  module _ (k : ℕ) where
    abbrev alive : Lft → Fml
    alive = one (λ q. flft (k ∷ []) q)

    part_again : (κ : Lft) (e : Share) → Counts 64 e 1 → ent 𝓤 (emp 𝓤) (sem 𝓛 (fwand (fsep (fdead κ) (fseps (flft (k ∷ []) e ∷ []))) (fupd (part 64 k))))
    unfolding fseps
    part_again κ e c = qed 𝓛 [] ∵ assume ! (‵ (fsep (fdead κ) (fsep (flft (k ∷ []) e) ftrue))) $ suffices ! (sem 𝓛 (part 64 k)) (upd_i 𝓤 (sem 𝓛 (part 64 k))) $
        fsplit3 ! $ move ! (1 ∷ []) $ use1 𝓛 (‵ (part 64 k)) (part_in 64 𝓛 k e c) $ keep ! (0 ∷ []) $ done !

    part_by_token : (κ : Lft) (q : Share) → ent 𝓤 (sep 𝓤 (A.bor κ (part 64 k)) (A.lft κ q)) (H.⇛ (sep 𝓤 (sem 𝓛 (alive κ)) (A.lft κ q)))
    unfolding fseps
    part_by_token κ q = qed 𝓛 (‵ (fbor κ (part 64 k)) ∷ ‵ (flft κ q) ∷ []) ∵ updating ! $ bor_open ! tt $ move ! (1 ∷ []) $ fpick ! (λ e. fpick ! (λ c.
        use0 𝓛 (‵ (fwand (fsep (fdead κ) (fseps (flft (k ∷ []) e ∷ []))) (fupd (part 64 k)))) (part_again κ e c) $ nothing ! $ move ! (2 ∷ 0 ∷ []) $ fjoin ! $ move ! (2 ∷ 0 ∷ 1 ∷ []) $ obor_alter ! tt (flft (k ∷ []) e ∷ []) $
        use1 𝓛 (‵ (fbor κ (flft (k ∷ []) e)) ⊛ ‵ ftrue) (id⊢ 𝓤 _) $ split ! $ bor_fracture ! tt (λ r. flft (k ∷ []) r) e $ now ! $ keep ! (0 ∷ 2 ∷ []) $ done !))

    -- a `&` to a share keeps the share's part
    pub Lends-part : (l : Lft) → Lends 𝓛 (part 64 k) alive l
    Lends-part = from_token (part 64 k) alive part_by_token

module _ (R : RattleType) (L : RowLaws R) (b o : ℕ) (x : R.Denot) (t : CellName) where
  abbrev a : Lft
  a = t.value_life ∷ []

  abbrev sh : Lft → Fml
  sh = shown R b o x t

  pub shown_laws : ShrLaws sh
  shown_laws = lent_at_shr_laws R L (block_ptr b (o + offset R)) x

  abbrev J : Fml
  J = Inv t b (o + 0)

  pub seen_laws : ShrLaws (seen_by R b o x t)
  seen_laws = beside_shr_laws (one (λ q. flft a q)) (beside (always J) (held a sh)) (one_shr_laws (λ q. flft a q)) (beside_shr_laws (always J) (held a sh) (always_shr_laws J) (held_shr_laws a sh shown_laws))

  module _ {M : Type 1} {𝓤 : Ura M} (𝓛 : Logic 𝓤) where
    open 𝓛 use {H, A}

    module _ (κ : Lft) where
      abbrev Owns : Fml
      Owns = reads R b o x t

      abbrev Lent : Fml
      Lent = seen_by R b o x t κ

      again : (e : Share) → Counts 64 e 1 → ent 𝓤 (sep 𝓤 (sem 𝓛 (finv J)) (sem 𝓛 (sh a))) (sem 𝓛 (fwand (fsep (fdead κ) (fseps (flft a e ∷ []))) (fupd Owns)))
      unfolding fseps
      again e c = qed 𝓛 (‵ (finv J) ∷ ‵ (sh a) ∷ []) ∵ assume ! (‵ (fsep (fdead κ) (fsep (flft a e) ftrue))) $ suffices ! (sem 𝓛 Owns) (upd_i 𝓤 (sem 𝓛 Owns)) $
          fsplit3 ! $ move ! (1 ∷ []) $ use1 𝓛 (‵ (part 64 t.value_life)) (part_in 64 𝓛 t.value_life e c) $ keep ! (0 ∷ 3 ∷ 4 ∷ []) $ fjoin3 ! $ done !

      by_token : (q : Share) → ent 𝓤 (sep 𝓤 (A.bor κ Owns) (A.lft κ q)) (H.⇛ (sep 𝓤 (sem 𝓛 Lent) (A.lft κ q)))
      unfolding fseps
      by_token q = qed 𝓛 (‵ (fbor κ Owns) ∷ ‵ (flft κ q) ∷ []) ∵ updating ! $ bor_open ! tt $ move ! (1 ∷ []) $ fsplit3 ! $ fpick ! (λ e. fpick ! (λ c. move ! (1 ∷ []) $
          use1 𝓛 (‵ (finv J) ⊛ ‵ (finv J)) (𝓛.invs.inv_dup J) $ split ! $ move ! (3 ∷ []) $
          use1 𝓛 (‵ (sh a) ⊛ ‵ (sh a)) (contraction 𝓛 sh shown_laws a) $ split ! $ move ! (2 ∷ 0 ∷ []) $
          use2 𝓛 (‵ (fwand (fsep (fdead κ) (fseps (flft a e ∷ []))) (fupd Owns))) (again e c) $ nothing ! $ move ! (4 ∷ 0 ∷ []) $ fjoin ! $ move ! (4 ∷ 0 ∷ 1 ∷ []) $ obor_alter ! tt (flft a e ∷ []) $
          use1 𝓛 (‵ (fbor κ (flft a e)) ⊛ ‵ ftrue) (id⊢ 𝓤 _) $ split ! $ bor_fracture ! tt (λ r. flft a r) e $ move ! (0 ∷ 4 ∷ 3 ∷ []) $ fjoin3 ! $
          now ! $ keep ! (0 ∷ 2 ∷ []) $ done !))

    pub Lends-reads : (l : Lft) → Lends 𝓛 (reads R b o x t) (seen_by R b o x t) l
    Lends-reads = from_token 𝓛 (reads R b o x t) (seen_by R b o x t) by_token

    -- the value can be read for as long as the `&` lives
    pub sees : (κ : Lft) → ent 𝓤 (sem 𝓛 (seen_by R b o x t κ)) (sem 𝓛 (sh κ))
    sees κ = qed 𝓛 (‵ (seen_by R b o x t κ) ∷ []) ∵ fsplit3 ! $ keep ! (0 ∷ 2 ∷ []) $ by ! (moves_from 𝓛 sh shown_laws κ a a (meet_⊑_left a κ))

module _ (R : RattleType) (L : RowLaws R) (x : R.Denot) (t : CellName) where
  pub ref_laws : (p : Ptr) (right : Right) → ShrLaws (ref_shares R p x t right)
  ref_laws null_ptr right = said_shr_laws ffalse tt
  ref_laws (block_ptr b o) no_right = nothing_shr_laws
  ref_laws (block_ptr b o) owner_right = seen_laws R L b o x t
  ref_laws (block_ptr b o) share_right = beside_shr_laws (seen_by R b o x t) (one (λ q. flft (t.share_life ∷ []) q)) (seen_laws R L b o x t) (one_shr_laws (λ q. flft (t.share_life ∷ []) q))
  ref_laws (block_ptr b o) sole_right = nothing_shr_laws
  ref_laws (block_ptr b o) permit_right = nothing_shr_laws

  pub Lends-ref : {M : Type 1} {𝓤 : Ura M} (𝓛 : Logic 𝓤) (l : Lft) (p : Ptr) (number : ℕ) (right : Right) → Lends 𝓛 (ref_owns R p x t number right) (ref_shares R p x t right) l
  Lends-ref 𝓛 l null_ptr number right = Lends-false 𝓛 (ref_shares R null_ptr x t right) l
  Lends-ref 𝓛 l (block_ptr b o) number no_right = Lends-nothing 𝓛 (right_to R b o x t number no_right) l
  Lends-ref 𝓛 l (block_ptr b o) number owner_right = Lends-reads R L b o x t 𝓛 l
  Lends-ref 𝓛 l (block_ptr b o) number share_right = let alive : Lft → Fml = one (λ q. flft (t.share_life ∷ []) q) in
      Lends-both 𝓛 (reads R b o x t) (share_owns t number) (seen_by R b o x t) alive l (Lends-reads R L b o x t 𝓛 l) (Lends-first 𝓛 (part 64 t.share_life) (claim t number) alive l (Lends-part 𝓛 t.share_life l))
  Lends-ref 𝓛 l (block_ptr b o) number sole_right = Lends-nothing 𝓛 (right_to R b o x t number sole_right) l
  Lends-ref 𝓛 l (block_ptr b o) number permit_right = Lends-nothing 𝓛 (right_to R b o x t number permit_right) l
