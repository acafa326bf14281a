-- A cell begins with its count at 1, and its value comes back at the end. Assumes `Logic`.
use Rattle.std.proofs.Common.{ℕ, ◌+◌, ◌≤◌, Bool, true, [], ◌∷◌, lit<}
use seplogic.Ra.Ura.{Ura}
use base.Fraction.{full_share}
use base.FractionLaws.{Counts-all}
use base.Logic.{ent, sep, ex, emp, upd, via}
use base.Fml.{Lft, Share, Incl, Incl-trans, Fml, ftrue, fsep, fex, flft, flent, finv}
use contract.BorrowLft.{meet_⊑_left, meet_⊑_right}
use types.Logic.{Logic, sem}
use types.Kit.{‵, ◌⊛◌, some as exists, later, ◌$◌, ◌∵◌, !, qed, move, split, split3, join, fsplit, fjoin, fjoin3, fpack, pick, use0, use1, use2, updating, await, now, done}
use types.Tokens.{lft_new, bor_new, lent_back}
use types.RcWeak.{part, rest, cut, takes}
use types.Keyed.{token, tickets_from, entries_new}
use types.Owned.{basic}
use denote.RattleType.{RattleType, RowLaws}
use denote.RawPtr.{block_ptr, lies_at}
use denote.SharingLaws.{contraction}
use denote.Steps.{nothing}
use denote.Struct.Lending.{Lends}
use Rattle.std.specs.Sync.RawAtomic.{word}
use Rattle.counted_cell.specs.Counting.{CellName, owner_right, share_right, sole_right, offset, shares_out, claim, book, standing, phase, Inv, shown, right_to}
use Rattle.counted_cell.proofs.CellRefLent.{shown_laws}
use Rattle.counted_cell.proofs.Book.{opens}

-- the name of a cell of these two lifetimes, this row of claims and this of receipts, and this limit, which gets more shares or none
abbrev pub Names : Type 0
Names = ℕ × ℕ × ℕ × ℕ

abbrev pub name_of : Names → ℕ → Bool → CellName
name_of k m w = record { value_life = k.0; share_life = k.1; claims = k.2; receipts = k.3; limit = m; grows = w }

module _ {M : Type 1} {𝓤 : Ura M} (𝓛 : Logic 𝓤) (R : RattleType) (L : RowLaws R) (b o : ℕ) (x : R.Denot) where
  open 𝓛 use {H, A}

  abbrev At : Fml
  At = lies_at R full_share (block_ptr b (o + offset R)) x

  -- the owner's right, a share's, and the lender's right to have the value back
  abbrev pub Begun : CellName → Fml
  Begun t = fsep (right_to R b o x t 0 owner_right) (fsep (right_to R b o x t 0 share_right) (flent (t.value_life ∷ []) At))

  -- a row of tickets
  tickets : ent 𝓤 (emp 𝓤) (H.⇛ (ex 𝓤 (λ (γ : ℕ). sem 𝓛 (tickets_from γ 0))))
  tickets = via 𝓤 (upd 𝓤 (ex 𝓤 (λ (γ : ℕ). sem 𝓛 (tickets_from γ 0)))) (entries_new token 𝓛 0 (λ _. tt)) (basic 𝓛 (ex 𝓤 (λ (γ : ℕ). sem 𝓛 (tickets_from γ 0))))

  pub begins : (l μ : Lft) (q : Share) (m : ℕ) (w : Bool) → 1 ≤ m → ((t : CellName) → Lends 𝓛 At (shown R b o x t) l) → Incl μ l
      → ent 𝓤 (sep 𝓤 (sem 𝓛 (word b (o + 0) 1)) (sep 𝓤 (sem 𝓛 At) (A.lft μ q))) (H.⇛ (sep 𝓤 (sem 𝓛 (fex Names (λ k. Begun (name_of k m w)))) (A.lft μ q)))
  begins l μ q m w room lends inc = qed 𝓛 (‵ (word b (o + 0) 1) ∷ ‵ At ∷ ‵ (flft μ q) ∷ []) ∵ updating ! $ lft_new ! tt (λ c.
      use1 𝓛 (‵ (rest 64 c 1) ⊛ ‵ (part 64 c)) (cut 64 𝓛 c 0 full_share (lit< tt) (Counts-all 64)) $ split ! $ lft_new ! tt (λ a.
      use0 𝓛 (later (exists (λ (γ : ℕ). ‵ (tickets_from γ 0)))) tickets $ await ! tt $ pick ! (λ r. use0 𝓛 (later (exists (λ (γ : ℕ). ‵ (tickets_from γ 0)))) tickets $ await ! tt $ pick ! (λ s.
      let t : CellName = name_of (a, c, s, r) m w in let J : Fml = Inv t b (o + 0) in let sh = shown R b o x t in
      use2 𝓛 (‵ (claim t 0) ⊛ ‵ (book t 0 1)) (opens 𝓛 t 0) $ split ! $
      -- [the claim; the book; a's token; c's rest; c's part; the word; the value; the token]
      move ! (4 ∷ 0 ∷ []) $ fjoin ! $ move ! (2 ∷ 3 ∷ 0 ∷ 4 ∷ 5 ∷ 6 ∷ []) $
      -- [a's token; c's rest; what a share owns; the word; the value; the token; the book]
      move ! (4 ∷ []) $ bor_new ! tt (a ∷ []) $ move ! (0 ∷ 2 ∷ 6 ∷ []) $
      -- [the borrow; a's token; the token; the lender's right; c's rest; what a share owns; the word; the book]
      move ! (1 ∷ 2 ∷ []) $ join ! $ move ! (1 ∷ 0 ∷ []) $
      use2 𝓛 (later (‵ (sh (a ∷ [])) ⊛ ‵ (flft (a ∷ []) full_share) ⊛ ‵ (flft μ q)))
      (lends t (a ∷ []) ((a ∷ [], full_share) ∷ (μ, q) ∷ []) (Incl-trans (meet_⊑_right (a ∷ []) μ) inc) (meet_⊑_left (a ∷ []) μ)) $ await ! tt $ split3 ! $
      -- [what is shown; a's token; the token; the lender's right; c's rest; what a share owns; the word; the book]
      move ! (1 ∷ []) $ use1 𝓛 (‵ (rest 64 a 1) ⊛ ‵ (part 64 a)) (cut 64 𝓛 a 0 full_share (lit< tt) (Counts-all 64)) $ split ! $
      use1 𝓛 (‵ (rest 64 a (1 + 1)) ⊛ ‵ (part 64 a)) (takes 64 𝓛 a 1 (lit< tt)) $ split ! $
      -- [a's rest; a part; a part; what is shown; the token; the lender's right; c's rest; what a share owns; the word; the book]
      move ! (6 ∷ []) $ fpack ! Bool (shares_out t 1) true $ move ! (1 ∷ 0 ∷ []) $ fjoin ! $ move ! (0 ∷ 8 ∷ []) $ fjoin ! $ nothing ! $ fpack ! (1 ≤ m) (λ _. ftrue) room $ fjoin ! $ move ! (7 ∷ 0 ∷ []) $ fjoin ! $ fpack ! ℕ (standing t b (o + 0)) 1 $ fpack ! Bool (phase t b (o + 0)) true $
      use1 𝓛 (later (‵ (finv J))) (𝓛.invs.inv_new J) $ await ! tt $ use1 𝓛 (‵ (finv J) ⊛ ‵ (finv J)) (𝓛.invs.inv_dup J) $ split ! $
      -- [the invariant, twice; a part; a part; what is shown; the token; the lender's right; what a share owns]
      move ! (4 ∷ []) $ use1 𝓛 (‵ (sh (a ∷ [])) ⊛ ‵ (sh (a ∷ []))) (contraction 𝓛 sh (shown_laws R L b o x t) (a ∷ [])) $ split ! $
      -- [what is shown, twice; the invariant, twice; a part; a part; the token; the lender's right; what a share owns]
      move ! (4 ∷ 2 ∷ 0 ∷ []) $ fjoin3 ! $ move ! (3 ∷ 2 ∷ 1 ∷ []) $ fjoin3 ! $ move ! (0 ∷ 4 ∷ []) $ fjoin ! $ move ! (1 ∷ 0 ∷ 3 ∷ []) $ fjoin3 ! $ fpack ! Names (λ k. Begun (name_of k m w)) (a, c, s, r) $ now ! $ done !))))

  -- what the owner's end gained, with the lender's right
  pub ends : (t : CellName) → ent 𝓤 (sep 𝓤 (sem 𝓛 (right_to R b o x t 0 sole_right)) (sem 𝓛 (flent (t.value_life ∷ []) At))) (H.⇛ (sep 𝓤 (sem 𝓛 (word b (o + 0) 0)) (sem 𝓛 At)))
  ends t = qed 𝓛 (‵ (right_to R b o x t 0 sole_right) ∷ ‵ (flent (t.value_life ∷ []) At) ∷ []) ∵ updating ! $ fsplit ! $ move ! (1 ∷ 2 ∷ []) $ lent_back ! tt $ now ! $ move ! (1 ∷ 0 ∷ []) $ done !
