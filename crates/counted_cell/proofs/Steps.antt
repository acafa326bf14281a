-- One step on the count of a cell, under its invariant. Assumes `Logic`.
use Rattle.std.proofs.Common.{◌≢◌, ◌≡◌, ℕ, ◌+◌, ◌-◌, ◌%◌, ◌^◌, ◌<◌, ◌≤◌, eqb, Bool, true, false, List, [], ◌∷◌, sym, refl, subst, arith, eq-eqb, ne_eqb, w64}
use mathlib.Core.Logic.{dite}
use mathlib.Core.List.{Mem, not-mem-nil}
use native.Mathlib.Decide.{ℕ_discrete}
use seplogic.Ra.Ura.{Ura}
use mir.Syntax.{ty_int}
use mir.Val.{vint, has_ty, WT}
use base.Fraction.{full_share}
use base.Logic.{SProp, ent, sep, wand, ex, all, guard, upd, upd_i, ex_i, all_i, all_e, via, never, never_e, id⊢}
use base.Fml.{Lft, Share, Fml, ftrue, fsep, fex, finv, fnamed, flft, fdead}
use prog.Atomic.{either}
use types.Logic.{Logic, sem}
use types.Kit.{‵, raw, ◌⊛◌, some, given, ◌$◌, ◌∵◌, !, qed, by, move, keep, drop, split, fsplit, fjoin, fpick, fpack, pick, learn, check, show, frame, each, assume, suffices, use1, use2, rewrite, done}
use types.RcWeak.{part, rest, takes, gives, whole, rest_some}
use denote.RawPtr.{block_ptr}
use denote.Steps.{nothing}
use Rattle.std.specs.Sync.RawAtomic.{Shift, rests, ends, enters, leaves, along, shifted, if_none, back, found, asks, always, word}
use Rattle.counted_cell.specs.Counting.{fact, CellName, shares_out, book, counted, standing, phase, Inv, reading_owns, share_owns, receipt_owns, permit_owns}
use Rattle.counted_cell.proofs.Book.{Numbered, permitted, Traded, one_less}

module _ {M : Type 1} {𝓤 : Ura M} (𝓛 : Logic 𝓤) (b o : ℕ) (t : CellName) where
  open 𝓛 use {H, A}

  abbrev Pr : Type 2
  Pr = SProp 𝓤

  abbrev ◌⊢◌ : Pr → Pr → Type 1
  P ⊢ Q = ent 𝓤 P Q

  abbrev ◌∗◌ : Pr → Pr → Pr
  P ∗ Q = sep 𝓤 P Q

  abbrev ◌-∗◌ : Pr → Pr → Pr
  P -∗ Q = wand 𝓤 P Q

  abbrev ⟦◌⟧ : Fml → Pr
  ⟦ P ⟧ = sem 𝓛 P

  infix 26 ◌⊢◌
  infixr 35 ◌∗◌
  infixr 30 ◌-∗◌
  abbrev a : Lft
  a = t.value_life ∷ []

  abbrev c : Lft
  c = t.share_life ∷ []

  abbrev I : Fml
  I = Inv t b o

  abbrev St : ℕ → Fml
  St = counted t

  pub not_dead : (κ : Lft) (s : Share) (X : Pr) → A.lft κ s ∗ A.dead κ ⊢ X
  not_dead κ s X = via 𝓤 (never 𝓤) (𝓛.lfts.lft-dead κ s) (never_e 𝓤 X)

  -- while there is a share, the count is not 0
  pub counts : (n : ℕ) (s : Share) → ⟦ reading_owns t n ⟧ ∗ A.lft c s ⊢ guard 𝓤 (n ≢ 0) (A.lft c s)
  counts n s = dite (ℕ_discrete n 0)
      (λ z. qed 𝓛 (‵ (reading_owns t n) ∷ ‵ (flft c s) ∷ []) ∵ use1 𝓛 (‵ (fdead c)) (all_e 𝓤 (λ (_ : n ≡ 0). A.dead c) z) $ move ! (1 ∷ 0 ∷ []) $ by ! (not_dead c s _))
      (λ some. qed 𝓛 (‵ (reading_owns t n) ∷ ‵ (flft c s) ∷ []) ∵ check ! some $ drop ! $ done !)

  pub part_dead : (k : ℕ) (X : Pr) → ⟦ part 64 k ⟧ ∗ A.dead (k ∷ []) ⊢ X
  part_dead k X = qed 𝓛 (‵ (part 64 k) ∷ ‵ (fdead (k ∷ [])) ∷ []) ∵ fpick ! (λ e. fpick ! (λ _. by ! (not_dead (k ∷ []) e X)))

  abbrev Within : ℕ → Type 0
  Within n = n ≤ t.limit

  pub stood : (n : ℕ) → Within n → ⟦ word b o n ⟧ ∗ ⟦ St n ⟧ ⊢ ⟦ I ⟧
  stood n le = qed 𝓛 (‵ (word b o n) ∷ ‵ (St n) ∷ []) ∵ move ! (1 ∷ []) $ nothing ! $ fpack ! (Within n) (λ _. ftrue) le $ fjoin ! $ move ! (1 ∷ 0 ∷ []) $ fjoin ! $ fpack ! ℕ (standing t b o) n $ fpack ! Bool (phase t b o) true $ done !

  -- how a step ends: the state is as the word says; or a lifetime ends first
  module _ (j : ℕ) (after : Fml) where
    abbrev Then : Pr
    Then = shifted 𝓛 (if_none 𝓛 ⟦ after ⟧) ((j, I) ∷ [])

    pub plainly : ⟦ I ⟧ ∗ ⟦ after ⟧ ⊢ Then
    plainly = let T : Pr = ⟦ after ⟧ in let Q : Pr = ⟦ I ⟧ ∗ upd 𝓤 T in
        qed 𝓛 (‵ I ∷ ‵ after ∷ []) ∵ suffices ! _ (ex_i 𝓤 (λ (s : Shift). along 𝓛 s (if_none 𝓛 T) ((j, I) ∷ [])) (leaves rests)) $
        suffices ! _ (upd_i 𝓤 Q) $ frame ! $ suffices ! _ (upd_i 𝓤 T) $ done !

    ending : (k : ℕ) → A.lft (k ∷ []) full_share ∗ (A.dead (k ∷ []) -∗ (⟦ I ⟧ ∗ ⟦ after ⟧)) ⊢ Then
    ending k = let T : Pr = ⟦ after ⟧ in let Q : Pr = ⟦ I ⟧ ∗ upd 𝓤 T in let Y : Pr = A.dead (k ∷ []) -∗ upd 𝓤 Q in let Z : Pr = A.lft (k ∷ []) full_share ∗ Y in
        qed 𝓛 (‵ (flft (k ∷ []) full_share) ∷ raw (A.dead (k ∷ []) -∗ (⟦ I ⟧ ∗ ⟦ after ⟧)) ∷ []) ∵ suffices ! _ (ex_i 𝓤 (λ (s : Shift). along 𝓛 s (if_none 𝓛 T) ((j, I) ∷ [])) (ends k (leaves rests))) $
        suffices ! _ (upd_i 𝓤 Z) $ frame ! $ assume ! (‵ (fdead (k ∷ []))) $
        use2 𝓛 (‵ I ⊛ ‵ after) (base.Logic.apply∗ 𝓤 (A.dead (k ∷ [])) (⟦ I ⟧ ∗ ⟦ after ⟧)) $ split ! $
        suffices ! _ (upd_i 𝓤 Q) $ frame ! $ suffices ! _ (upd_i 𝓤 T) $ done !

  -- the word is found in the invariant, since X rules out that the owner has ended; and the step is paid for at each number
  module _ (f : ℕ → ℕ) (after : ℕ → Fml) (X : Pr) where
    abbrev Pays : Type 1
    Pays = (j n : ℕ) → n < 2 ^ 64 → Within n → ⟦ word b o (f n) ⟧ ∗ (⟦ St n ⟧ ∗ X) ⊢ Then j (after n)

    abbrev Fd : ℕ → Pr
    Fd j = ex 𝓤 (found 𝓛 ((j, I) ∷ []) b o f always after)

    by_phase : A.dead a ∗ X ⊢ never 𝓤 → Pays → (j : ℕ) (y : Bool) → ⟦ phase t b o y ⟧ ∗ X ⊢ Fd j
    by_phase alive pays j false = via 𝓤 (never 𝓤) alive (never_e 𝓤 (Fd j))
    by_phase alive pays j true = qed 𝓛 (‵ (fex ℕ (standing t b o)) ∷ raw X ∷ []) ∵ fpick ! (λ n. fsplit ! $ move ! (1 ∷ []) $ fsplit ! $ fpick ! (λ le. drop ! $ move ! (1 ∷ []) $
        use1 𝓛 (given (lib.Dec.T (has_ty (ty_int w64) (vint w64 n)) × WT (vint w64 n)) (‵ (word b o n))) (𝓛.laws.at_wt full_share (ty_int w64) b o (vint w64 n)) $ learn ! (λ g.
        show ! (found 𝓛 ((j, I) ∷ []) b o f always after) n $ frame ! $ each ! (λ (_ : Unit {0}). back 𝓛 ((j, I) ∷ []) b o f after n) (λ _.
        assume ! (‵ (word b o (f n))) $ by ! (pays j n g.1.fits le)))))

    pub stepped : A.dead a ∗ X ⊢ never 𝓤 → Pays → A.inv I ∗ X ⊢ asks 𝓛 (block_ptr b o) f always after
    stepped alive pays = let K : List (ℕ × Fml) → Pr = λ l. ex 𝓤 (found 𝓛 l b o f always after) in
        qed 𝓛 (‵ (finv I) ∷ raw X ∷ []) ∵ use1 𝓛 (some (λ (j : ℕ). ‵ (fnamed j I))) (𝓛.invs.inv_named I) $ pick ! (λ j.
        suffices ! _ (ex_i 𝓤 (λ (s : Shift). along 𝓛 s K []) (enters j I rests)) $ suffices ! _ (upd_i 𝓤 (guard 𝓤 (¬ Mem j []) (A.named j I ∗ (⟦ I ⟧ -∗ upd 𝓤 (Fd j))))) $
        check ! (λ m. not-mem-nil m) $ frame ! $ assume ! (‵ I) $ suffices ! _ (upd_i 𝓤 (Fd j)) $ fpick ! (λ y. by ! (by_phase alive pays j y)))

  -- ---- a share less
  abbrev pub less : ℕ → ℕ
  less n = (n + (2 ^ 64 - 1)) % 2 ^ 64

  -- the share of this number is the one that goes
  module _ (x : ℕ) where
    abbrev pub Left : ℕ → Fml
    Left n = fsep (fact (0 < n)) (fsep (reading_owns t (n - 1)) (receipt_owns t x))

    abbrev pub Shared : Pr
    Shared = ⟦ part 64 t.value_life ⟧ ∗ ⟦ share_owns t x ⟧

    -- the parts go back, with the book of one share less
    leave_from : (j n : ℕ) → n < 2 ^ 64 → Within n → (y : Bool) → ⟦ shares_out t n y ⟧ ∗ ⟦ rest 64 t.value_life (n + 1) ⟧ ∗ ⟦ book t 0 (n - 1) ⟧ ∗ ⟦ receipt_owns t x ⟧ ∗ ⟦ word b o (less n) ⟧ ∗ ⟦ part 64 t.value_life ⟧ ∗ ⟦ part 64 t.share_life ⟧ ⊢ Then j (Left n)
    leave_from j n fits le false = qed 𝓛 (‵ (shares_out t n false) ∷ ‵ (rest 64 t.value_life (n + 1)) ∷ ‵ (book t 0 (n - 1)) ∷ ‵ (receipt_owns t x) ∷ ‵ (word b o (less n)) ∷ ‵ (part 64 t.value_life) ∷ ‵ (part 64 t.share_life) ∷ []) ∵ fsplit ! $ keep ! (7 ∷ 1 ∷ []) $ by ! (part_dead t.share_life (Then j (Left n)))
    leave_from j n fits le true = qed 𝓛 (‵ (rest 64 t.share_life n) ∷ ‵ (rest 64 t.value_life (n + 1)) ∷ ‵ (book t 0 (n - 1)) ∷ ‵ (receipt_owns t x) ∷ ‵ (word b o (less n)) ∷ ‵ (part 64 t.value_life) ∷ ‵ (part 64 t.share_life) ∷ []) ∵
        use1 𝓛 (given (0 < n) (‵ (rest 64 t.share_life n))) (rest_some 64 𝓛 t.share_life n) $ learn ! (λ pos. move ! (1 ∷ 5 ∷ []) $
        use2 𝓛 (‵ (rest 64 t.value_life ((n + 1) - 1))) (gives 64 𝓛 t.value_life (n + 1) (omega arith)) $ let back_at : (n + 1) - 1 ≡ (n - 1) + 1 = omega arith in rewrite ! 0 (λ (k : ℕ). ‵ (rest 64 t.value_life k)) back_at refl $
        -- [a's rest; c's rest; the book; the receipt; the word; c's part]
        move ! (3 ∷ 0 ∷ 2 ∷ 4 ∷ 1 ∷ 5 ∷ []) $ nothing ! $ fpack ! (0 < n) (λ _. ftrue) pos $ move ! (1 ∷ 0 ∷ []) $
        -- [the receipt; that n is positive; a's rest; the book; the word; c's rest; c's part]
        dite (ℕ_discrete n 1)
        (λ one. let zero : less n ≡ 0 = omega arith in let none : n - 1 ≡ 0 = omega arith in
        rewrite ! 2 (λ (k : ℕ). ‵ (rest 64 t.value_life (k + 1))) none refl $ rewrite ! 3 (λ (k : ℕ). ‵ (book t 0 k)) none refl $ rewrite ! 4 (λ (k : ℕ). ‵ (word b o k)) zero refl $ rewrite ! 5 (λ (k : ℕ). ‵ (rest 64 t.share_life k)) one refl $
        move ! (5 ∷ 6 ∷ []) $ use2 𝓛 (‵ (flft c full_share)) (whole 64 𝓛 t.share_life) $ suffices ! _ (ending j (Left n) t.share_life) $ frame ! $ assume ! (‵ (fdead c)) $ use1 𝓛 (‵ (fdead c) ⊛ ‵ (fdead c)) (𝓛.lfts.dead_dup c) $ split ! $
        -- [c is dead, twice; the receipt; that n is positive; a's rest; the book; the word]
        nothing ! $ fpack ! (0 ≡ 0) (λ _. ftrue) refl $ fjoin ! $ fpack ! Bool (shares_out t 0) false $ move ! (4 ∷ 0 ∷ []) $ fjoin ! $ move ! (0 ∷ 4 ∷ []) $ fjoin ! $ move ! (4 ∷ 0 ∷ []) $
        use2 𝓛 (‵ I) (stood 0 (omega arith)) $ move ! (1 ∷ []) $ use1 𝓛 (‵ (reading_owns t (n - 1))) (all_i 𝓤 (λ (_ : n - 1 ≡ 0). A.dead c) (λ _. id⊢ 𝓤 (A.dead c))) $ move ! (0 ∷ 2 ∷ []) $ fjoin ! $ move ! (2 ∷ 0 ∷ []) $ fjoin ! $ move ! (1 ∷ 0 ∷ []) $ done !)
        (λ many. let is : less n ≡ n - 1 = omega arith in move ! (5 ∷ 6 ∷ []) $ use2 𝓛 (‵ (rest 64 t.share_life (n - 1))) (gives 64 𝓛 t.share_life n (omega arith)) $
        -- [c's rest; the receipt; that n is positive; a's rest; the book; the word]
        fpack ! Bool (shares_out t (n - 1)) true $ move ! (3 ∷ 0 ∷ []) $ fjoin ! $ move ! (0 ∷ 3 ∷ []) $ fjoin ! $ move ! (3 ∷ 0 ∷ []) $ rewrite ! 0 (λ (k : ℕ). ‵ (word b o k)) is refl $ use2 𝓛 (‵ I) (stood (n - 1) (omega arith)) $
        move ! (1 ∷ []) $ nothing ! $ use1 𝓛 (‵ (reading_owns t (n - 1))) (all_i 𝓤 (λ (_ : n - 1 ≡ 0). A.dead c) (λ z. absurd (omega arith))) $ fjoin ! $ move ! (2 ∷ 0 ∷ []) $ fjoin ! $ move ! (1 ∷ 0 ∷ []) $ by ! (plainly j (Left n))))

    pub leaves_one : A.inv I ∗ Shared ⊢ asks 𝓛 (block_ptr b o) less always Left
    leaves_one = stepped less Left Shared (qed 𝓛 (‵ (fdead a) ∷ ‵ (part 64 t.value_life) ∷ ‵ (share_owns t x) ∷ []) ∵ keep ! (1 ∷ 0 ∷ []) $ by ! (part_dead t.value_life (never 𝓤)))
        (λ j n fits le. qed 𝓛 (‵ (word b o (less n)) ∷ ‵ (St n) ∷ ‵ (part 64 t.value_life) ∷ ‵ (share_owns t x) ∷ []) ∵ move ! (3 ∷ []) $ fsplit ! $ move ! (3 ∷ []) $ fsplit ! $
        -- [the tally; the book; c's part; the ticket; the word; a's part]
        move ! (1 ∷ 3 ∷ []) $ use2 𝓛 (‵ (fex ℕ (Traded t 0 x n))) (one_less 𝓛 t n x) $ fpick ! (λ m. fsplit ! $ fpick ! (λ is. drop ! $ fsplit ! $ let fewer : m ≡ n - 1 = omega (arith, is) in rewrite ! 0 (λ (k : ℕ). ‵ (book t 0 k)) fewer refl $
        -- [the book; the receipt; the tally; c's part; the word; a's part]
        move ! (2 ∷ []) $ fsplit ! $ move ! (1 ∷ []) $ fpick ! (λ y. move ! (0 ∷ 1 ∷ 2 ∷ 3 ∷ 5 ∷ 6 ∷ 4 ∷ []) $ by ! (leave_from j n fits le y)))))

  -- ---- what a count that was read shows
  shares_read : (n : ℕ) (y : Bool) → ⟦ shares_out t n y ⟧ ⊢ ⟦ fex Bool (shares_out t n) ⟧ ∗ ⟦ reading_owns t n ⟧
  shares_read n false = qed 𝓛 (‵ (shares_out t n false) ∷ []) ∵ fsplit ! $ move ! (1 ∷ []) $ use1 𝓛 (‵ (fdead c) ⊛ ‵ (fdead c)) (𝓛.lfts.dead_dup c) $ split ! $ move ! (2 ∷ 1 ∷ []) $ fjoin ! $ fpack ! Bool (shares_out t n) false $
      move ! (1 ∷ []) $ use1 𝓛 (‵ (reading_owns t n)) (all_i 𝓤 (λ (_ : n ≡ 0). A.dead c) (λ _. id⊢ 𝓤 (A.dead c))) $ move ! (1 ∷ 0 ∷ []) $ done !
  shares_read n true = qed 𝓛 (‵ (rest 64 t.share_life n) ∷ []) ∵ use1 𝓛 (given (0 < n) (‵ (rest 64 t.share_life n))) (rest_some 64 𝓛 t.share_life n) $ learn ! (λ pos. fpack ! Bool (shares_out t n) true $
      nothing ! $ use1 𝓛 (‵ (reading_owns t n)) (all_i 𝓤 (λ (_ : n ≡ 0). A.dead c) (λ z. absurd (omega arith))) $ move ! (1 ∷ 0 ∷ []) $ done !)

  count_read : (n : ℕ) → ⟦ St n ⟧ ⊢ ⟦ St n ⟧ ∗ ⟦ reading_owns t n ⟧
  count_read n = qed 𝓛 (‵ (St n) ∷ []) ∵ fsplit ! $ fsplit ! $ move ! (1 ∷ []) $ fpick ! (λ y. use1 𝓛 (‵ (fex Bool (shares_out t n)) ⊛ ‵ (reading_owns t n)) (shares_read n y) $ split ! $ move ! (2 ∷ 0 ∷ []) $ fjoin ! $ move ! (0 ∷ 2 ∷ []) $ fjoin ! $ done !)

  -- ---- a look
  module _ (s : Share) where
    abbrev pub Looked : ℕ → Fml
    Looked n = fsep (flft a s) (reading_owns t n)

    pub looks : A.inv I ∗ A.lft a s ⊢ asks 𝓛 (block_ptr b o) (λ n. n) always Looked
    looks = stepped (λ n. n) Looked (A.lft a s) (qed 𝓛 (‵ (fdead a) ∷ ‵ (flft a s) ∷ []) ∵ move ! (1 ∷ 0 ∷ []) $ by ! (not_dead a s (never 𝓤)))
        (λ j n fits le. qed 𝓛 (‵ (word b o n) ∷ ‵ (St n) ∷ ‵ (flft a s) ∷ []) ∵ move ! (1 ∷ []) $ use1 𝓛 (‵ (St n) ⊛ ‵ (reading_owns t n)) (count_read n) $ split ! $ move ! (2 ∷ 0 ∷ []) $ use2 𝓛 (‵ I) (stood n le) $
        move ! (2 ∷ 1 ∷ []) $ fjoin ! $ move ! (1 ∷ 0 ∷ []) $ by ! (plainly j (Looked n)))

    -- ---- a share more
    module _ (seen : ℕ) (pos : 0 < seen) (room : seen + 2 < 2 ^ 64) (below : seen < t.limit) (x : ℕ) where
      abbrev pub more : ℕ → ℕ
      more n = either (eqb n seen) (seen + 1) n

      abbrev pub won : ℕ → Bool → Fml
      won n true = fsep (fact (n ≡ seen)) (fsep (part 64 t.value_life) (fsep (part 64 t.share_life) (Numbered t)))
      won n false = fsep (fact (n ≢ seen)) (permit_owns t x)

      abbrev pub Raised : ℕ → Fml
      Raised n = fsep (flft a s) (fsep (reading_owns t n) (fex Bool (won n)))

      raise_from : (j : ℕ) (y : Bool) → ⟦ shares_out t seen y ⟧ ∗ ⟦ rest 64 t.value_life (seen + 1) ⟧ ∗ ⟦ book t 0 seen ⟧ ∗ ⟦ permit_owns t x ⟧ ∗ ⟦ word b o (seen + 1) ⟧ ∗ A.lft a s ⊢ Then j (Raised seen)
      raise_from j false = qed 𝓛 (‵ (shares_out t seen false) ∷ ‵ (rest 64 t.value_life (seen + 1)) ∷ ‵ (book t 0 seen) ∷ ‵ (permit_owns t x) ∷ ‵ (word b o (seen + 1)) ∷ ‵ (flft a s) ∷ []) ∵ fsplit ! $ fpick ! (λ z. absurd (omega arith))
      raise_from j true = qed 𝓛 (‵ (rest 64 t.share_life seen) ∷ ‵ (rest 64 t.value_life (seen + 1)) ∷ ‵ (book t 0 seen) ∷ ‵ (permit_owns t x) ∷ ‵ (word b o (seen + 1)) ∷ ‵ (flft a s) ∷ []) ∵
          use1 𝓛 (‵ (rest 64 t.share_life (seen + 1)) ⊛ ‵ (part 64 t.share_life)) (takes 64 𝓛 t.share_life seen (omega arith)) $ split ! $ fpack ! Bool (shares_out t (seen + 1)) true $ move ! (2 ∷ []) $
          use1 𝓛 (‵ (rest 64 t.value_life ((seen + 1) + 1)) ⊛ ‵ (part 64 t.value_life)) (takes 64 𝓛 t.value_life (seen + 1) (omega arith)) $ split ! $ move ! (0 ∷ 2 ∷ []) $ fjoin ! $
          -- [the tally; a's part; c's part; the book; the permit; the word; a's token]
          move ! (3 ∷ 4 ∷ []) $ use2 𝓛 (‵ (Numbered t) ⊛ ‵ (book t 0 (seen + 1))) (permitted 𝓛 t seen x) $ split ! $ move ! (2 ∷ 1 ∷ []) $ fjoin ! $ move ! (4 ∷ 0 ∷ []) $
          use2 𝓛 (‵ I) (stood (seen + 1) (omega arith)) $ move ! (3 ∷ 1 ∷ []) $ fjoin ! $ move ! (2 ∷ 0 ∷ []) $ fjoin ! $ nothing ! $ fpack ! (seen ≡ seen) (λ _. ftrue) refl $ fjoin ! $ fpack ! Bool (won seen) true $
          nothing ! $ use1 𝓛 (‵ (reading_owns t seen)) (all_i 𝓤 (λ (_ : seen ≡ 0). A.dead c) (λ z. absurd (omega arith))) $ fjoin ! $ move ! (2 ∷ 0 ∷ []) $ fjoin ! $ move ! (1 ∷ 0 ∷ []) $
          by ! (plainly j (Raised seen))

      pub raises : A.inv I ∗ (A.lft a s ∗ ⟦ permit_owns t x ⟧) ⊢ asks 𝓛 (block_ptr b o) more always Raised
      raises = stepped more Raised (A.lft a s ∗ ⟦ permit_owns t x ⟧) (qed 𝓛 (‵ (fdead a) ∷ ‵ (flft a s) ∷ ‵ (permit_owns t x) ∷ []) ∵ keep ! (1 ∷ 0 ∷ []) $ by ! (not_dead a s (never 𝓤)))
          (λ j n fits le. let F : Bool → Type 1 = λ y. ⟦ word b o (either y (seen + 1) n) ⟧ ∗ (⟦ St n ⟧ ∗ (A.lft a s ∗ ⟦ permit_owns t x ⟧)) ⊢ Then j (Raised n) in dite (ℕ_discrete n seen)
          (λ e. subst F (sym (eq-eqb n seen e)) (subst (λ (k : ℕ). ⟦ word b o (seen + 1) ⟧ ∗ (⟦ St k ⟧ ∗ (A.lft a s ∗ ⟦ permit_owns t x ⟧)) ⊢ Then j (Raised k)) (sym e)
          (qed 𝓛 (‵ (word b o (seen + 1)) ∷ ‵ (St seen) ∷ ‵ (flft a s) ∷ ‵ (permit_owns t x) ∷ []) ∵ move ! (1 ∷ []) $ fsplit ! $ fsplit ! $ move ! (1 ∷ []) $ fpick ! (λ y. move ! (0 ∷ 1 ∷ 2 ∷ 5 ∷ []) $ by ! (raise_from j y)))))
          (λ miss. subst F (sym (ne_eqb n seen miss)) (qed 𝓛 (‵ (word b o n) ∷ ‵ (St n) ∷ ‵ (flft a s) ∷ ‵ (permit_owns t x) ∷ []) ∵ move ! (1 ∷ []) $ use1 𝓛 (‵ (St n) ⊛ ‵ (reading_owns t n)) (count_read n) $ split ! $ move ! (2 ∷ 0 ∷ []) $ use2 𝓛 (‵ I) (stood n le) $
          nothing ! $ fpack ! (n ≢ seen) (λ _. ftrue) miss $ move ! (0 ∷ 4 ∷ []) $ fjoin ! $ fpack ! Bool (won n) false $ move ! (2 ∷ 0 ∷ []) $ fjoin ! $ move ! (2 ∷ 0 ∷ []) $ fjoin ! $ move ! (1 ∷ 0 ∷ []) $ by ! (plainly j (Raised n)))))

  -- ---- the owner's end
  abbrev pub over : ℕ → Bool → Fml
  over n true = fsep (fact (n ≡ 0)) (fsep (word b o 0) (fdead a))
  over n false = fact (n ≢ 0)

  abbrev pub Closed : ℕ → Fml
  Closed n = fsep (reading_owns t n) (fex Bool (over n))

  none_read : (n : ℕ) → n ≡ 0 → (y : Bool) → ⟦ shares_out t n y ⟧ ⊢ A.dead c
  none_read n z false = qed 𝓛 (‵ (shares_out t n false) ∷ []) ∵ fsplit ! $ keep ! (1 ∷ []) $ done !
  none_read n z true = qed 𝓛 (‵ (rest 64 t.share_life n) ∷ []) ∵ use1 𝓛 (given (0 < n) (‵ (rest 64 t.share_life n))) (rest_some 64 𝓛 t.share_life n) $ learn ! (λ pos. absurd (omega arith))

  share_life_over : (n : ℕ) → n ≡ 0 → ⟦ fex Bool (shares_out t n) ⟧ ⊢ A.dead c
  share_life_over n z = qed 𝓛 (‵ (fex Bool (shares_out t n)) ∷ []) ∵ fpick ! (λ y. by ! (none_read n z y))

  close_from : (j n : ℕ) → Within n → ⟦ word b o n ⟧ ∗ ⟦ St n ⟧ ∗ ⟦ part 64 t.value_life ⟧ ⊢ Then j (Closed n)
  close_from j n le = qed 𝓛 (‵ (word b o n) ∷ ‵ (St n) ∷ ‵ (part 64 t.value_life) ∷ []) ∵ dite (ℕ_discrete n 0)
      (λ z. rewrite ! 0 (λ (k : ℕ). ‵ (word b o k)) z refl $ move ! (1 ∷ []) $ fsplit ! $ move ! (1 ∷ []) $ drop ! $ fsplit ! $ rewrite ! 0 (λ (k : ℕ). ‵ (rest 64 t.value_life (k + 1))) z refl $ move ! (0 ∷ 3 ∷ []) $ use2 𝓛 (‵ (flft a full_share)) (whole 64 𝓛 t.value_life) $ move ! (1 ∷ []) $ use1 𝓛 (‵ (fdead c)) (share_life_over n z) $ move ! (1 ∷ []) $
      suffices ! _ (ending j (Closed n) t.value_life) $ frame ! $ assume ! (‵ (fdead a)) $ use1 𝓛 (‵ (fdead a) ⊛ ‵ (fdead a)) (𝓛.lfts.dead_dup a) $ split ! $ fpack ! Bool (phase t b o) false $ frame ! $ move ! (1 ∷ []) $
      use1 𝓛 (‵ (reading_owns t n)) (all_i 𝓤 (λ (_ : n ≡ 0). A.dead c) (λ _. id⊢ 𝓤 (A.dead c))) $ move ! (2 ∷ 1 ∷ []) $ fjoin ! $
      nothing ! $ fpack ! (n ≡ 0) (λ _. ftrue) z $ fjoin ! $ fpack ! Bool (over n) true $ move ! (1 ∷ 0 ∷ []) $ fjoin ! $ done !)
      (λ some. use2 𝓛 (‵ I) (stood n le) $ move ! (1 ∷ []) $ drop ! $ nothing ! $ fpack ! (n ≢ 0) (λ _. ftrue) some $ fpack ! Bool (over n) false $ nothing ! $ use1 𝓛 (‵ (reading_owns t n)) (all_i 𝓤 (λ (_ : n ≡ 0). A.dead c) (λ z. absurd (some z))) $ fjoin ! $ move ! (1 ∷ 0 ∷ []) $ by ! (plainly j (Closed n)))

  pub closes_it : A.inv I ∗ ⟦ part 64 t.value_life ⟧ ⊢ asks 𝓛 (block_ptr b o) (λ n. n) always Closed
  closes_it = stepped (λ n. n) Closed ⟦ part 64 t.value_life ⟧ (qed 𝓛 (‵ (fdead a) ∷ ‵ (part 64 t.value_life) ∷ []) ∵ move ! (1 ∷ 0 ∷ []) $ by ! (part_dead t.value_life (never 𝓤))) (λ j n fits le. close_from j n le)
