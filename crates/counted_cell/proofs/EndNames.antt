-- The names that a walk over the end of a share's guard cites: those of the sets above have such ends.
pub use Rattle.std.proofs.Common.{◌≡◌, ℕ, List, [], ◌∷◌, refl, sym, ap, subst, T}
pub use Rattle.std.proofs.raw_atomic.Walks.{proved_at, leaves}
pub use mir.Val.{Val, vunit, has_ty, WT}
pub use mir.Syntax.{a_type, dcons, dnil}
pub use mir.MapTy.{inst_fn}
pub use base.Logic.{ent, id⊢}
pub use base.Fml.{ftrue}
pub use types.Kit.{‵, raw, ◌⊛◌, some, given, later, ◌$◌, ◌∵◌, !, qed, by, move, keep, drop, split, fsplit, fjoin, pick, learn, use1, await, rewrite, feq_i}
pub use types.Run.{of_opd, unit_lit, no_more, and_then, returns, enter}
pub use types.ByLocal.{alloc_all, pass_all, free_all, look_at, get, sets, lands_as}
pub use contract.Running.{tables}
pub use contract.Monad.{fact}
pub use contract.Lifetimes.{Lfts}
pub use denote.Exit.{yes, no}
pub use denote.RattleType.{RattleType}
pub use denote.Laws.{Is, Typed, shows}
pub use denote.Param.{layout, param, bounded}
pub use denote.Param.Laws.{Laws, param_laws}
pub use denote.Signature.{plain, type_at, named_lft}
pub use denote.Steps.{nothing, only, heard}
pub use denote.Struct.Members.{Lone}
pub use denote.Triple.Call.{calls_at}
pub use denote.Triple.Clauses.{lasts, Lasts}
pub use denote.Triple.Entry.{Res, alive}
pub use denote.Triple.Spec.{triple_of}
pub use denote.Triple.Table.{framed}
pub use denote.Triple.Walked.{Stays, stay_dropped, walk_of, Goes-dropped}
pub use prog.Wp.{WpFn}

-- the machine value of what has just one
pub lone : (vs : List Val) → Lone vs → (w : Val) × (vs ≡ w ∷ [])
lone [] l = absurd l
lone (w ∷ []) l = (w, refl)
lone (w ∷ u ∷ us) l = absurd l
