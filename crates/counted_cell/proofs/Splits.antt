-- A block is its word and its value. Assumes `Logic`.
use Rattle.std.proofs.Common.{ℕ, zero, ◌+◌, [], ◌∷◌, w64}
use seplogic.Ra.Ura.{Ura}
use base.Fraction.{full_share}
use base.Logic.{ent, sep, wand, all_e, apply∗}
use base.Fml.{Fml, ftrue, fsep}
use types.Logic.{Logic, sem}
use types.Kit.{‵, raw, ◌⊛◌, ◌$◌, ◌∵◌, !, qed, move, keep, use1, use2, split, split3, fsplit, fjoin3, assume, done}
use denote.RattleType.{RattleType, Denots}
use denote.Memory.{part_of, part_at}
use denote.Plain.{uint_in, uint_out}
use denote.Steps.{nothing}
use denote.Struct.Struct.{Struct}
use denote.Struct.Laws.{u64-laws}
use denote.Struct.Members.{Member, row_of, rows_of, parts_at}
use denote.Struct.Parts.{PartsBack, Struct-parts, shape_of}
use denote.Param.{param, layout}
use denote.Param.Laws.{Laws, param_laws}
use Rattle.std.specs.Sync.RawAtomic.{word}
use Rattle.std.proofs.cell.BorrowLemmas.{flag}
use Rattle.counted_cell.specs.BlockRight.{value_at, way_back}
use Rattle.counted_cell.specs.contracts.header.Header as block

module _ (X : RattleType) (L : Laws X) {M : Type 1} {𝓤 : Ura M} (𝓛 : Logic 𝓤) (b o : ℕ) (x : X.Denot) where
  abbrev R : RattleType
  R = param 0 X

  abbrev m : Member
  m = record { row = R; ty = layout X }

  abbrev ks : denote.Struct.Members.Member → mathlib.Core.List.List Member
  ks k = k ∷ m ∷ []

  abbrev Whole : ℕ → Fml
  Whole n = part_at (block.the_row R) full_share (record { count = n; value = x }) b o

  abbrev wd : ℕ → Fml
  wd n = part_at (row_of flag) full_share n b (o + 0)

  abbrev ν : mir.Syntax.Sym
  ν = (block.the_type R).name

  back : ent 𝓤 (PartsBack 𝓛 full_share ν (ks flag) b o) (sem 𝓛 (way_back R b o x))
  unfolding part_of
  back = qed 𝓛 (raw (PartsBack 𝓛 full_share ν (ks flag) b o) ∷ []) ∵ assume ! (‵ (fsep (word b (o + 0) 0) (value_at R b o x))) $ fsplit ! $
      use1 𝓛 (‵ (wd 0)) (uint_in 𝓛 full_share w64 0 b (o + 0)) $ nothing ! $ move ! (2 ∷ 1 ∷ 0 ∷ []) $ move ! (1 ∷ 0 ∷ 2 ∷ []) $ fjoin3 ! $ move ! (1 ∷ []) $
      use1 𝓛 (raw (wand 𝓤 (sem 𝓛 (parts_at full_share (ks flag) zero (0, (x, tt)) b o)) (sem 𝓛 (Whole 0))))
      (all_e 𝓤 (λ (a : Denots (rows_of (ks flag))). wand 𝓤 (sem 𝓛 (parts_at full_share (ks flag) zero a b o)) (sem 𝓛 (part_at (Struct (shape_of ν (ks flag))) full_share a b o))) (0, (x, tt))) $
      move ! (1 ∷ 0 ∷ []) $ use2 𝓛 (‵ (Whole 0)) (apply∗ 𝓤 (sem 𝓛 (parts_at full_share (ks flag) zero (0, (x, tt)) b o)) (sem 𝓛 (Whole 0))) $ done !

  pub apart : (n : ℕ) → ent 𝓤 (sem 𝓛 (Whole n)) (sep 𝓤 (sem 𝓛 (word b (o + 0) n)) (sep 𝓤 (sem 𝓛 (value_at R b o x)) (sem 𝓛 (way_back R b o x))))
  unfolding part_of
  apart n = qed 𝓛 (‵ (Whole n) ∷ []) ∵
      use1 𝓛 ((‵ (wd n) ⊛ ‵ (value_at R b o x) ⊛ ‵ ftrue) ⊛ raw (PartsBack 𝓛 full_share ν (ks flag) b o)) (Struct-parts 𝓛 full_share ν (ks flag) (u64-laws.lawful 𝓛, ((param_laws 0 X L).lawful 𝓛, tt)) (n, (x, tt)) b o) $
      split ! $ split3 ! $ use1 𝓛 (‵ (word b (o + 0) n)) (uint_out 𝓛 full_share w64 n b (o + 0)) $ move ! (3 ∷ []) $ use1 𝓛 (‵ (way_back R b o x)) back $ keep ! (1 ∷ 2 ∷ 0 ∷ []) $ done !
