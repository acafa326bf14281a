-- The names that the walks cite.
pub use Rattle.std.proofs.Common.{◌≡◌, ℕ, ◌+◌, ◌<◌, List, [], ◌∷◌, ◌++◌, sym, refl, ap, ◌∙◌, subst, lit<, arith, length}
pub use Rattle.std.proofs.raw_atomic.Walks.{proved_at, leaves}
pub use mir.Syntax.{a_type, named}
pub use mir.Val.{Val, vunit, vptr, vstruct, vcons, vnil}
pub use mir.MapTy.{inst_fn}
pub use prog.Wp.{WpFn}
pub use base.Fraction.{full_share}
pub use base.Logic.{SProp, ent, sep, emp, id⊢, fst∗, never}
pub use base.Fml.{Lft, Share, GName, Fml, ftrue, fsep, fex, feq, flft, fobs, fbor, fhide}
pub use types.Logic.{sem}
pub use types.SemTy.{Body as Borrowed}
pub use types.Kit.{Item, ‵, raw, ◌⊛◌, some, given, later, at_ret, ◌$◌, ◌∵◌, !, qed, by, move, keep, drop, split, split3, join, fsplit, fsplit3, fjoin, fjoin3, fpick, fpack, pick, learn, use0, use1, use2, await, rewrite, feq_i, feq_l, suffices, done}
pub use types.Run.{stop, fld, hop, load, addr, unit_lit, of_opd, no_more, and_then, assigns, assigns_last, first, blocks, exec, returns, enter}
pub use types.ByLocal.{alloc_all, pass_all, free_all, look_at, get, get_in, through, sets, sets_last, is, env}
pub use types.Part.{agg, sub, whole, look_in, store_in}
pub use contract.Running.{tables}
pub use contract.Monad.{fact, fact_i}
pub use contract.BorrowLft.{◌⊑◌}
pub use denote.Exit.{yes, no}
pub use denote.RattleType.{RattleType, Valss, owns}
pub use denote.Signature.{types_at, type_at, plain}
pub use denote.RawPtr.{Ptr, InBlock, block_ptr, null_ptr, ptr_val, block_of, count_of, at_block, in_a_block, lies_at}
pub use denote.Steps.{nothing, only, peeks, heard, looks, shuts}
pub use denote.Opens.{unhide, hide}
pub use denote.Laws.{Is, shows}
pub use denote.Memory.{mem, cell_at, part_at, hidden_shr}
pub use denote.Param.{param, layout, layouts}
pub use denote.Param.Laws.{param_laws}
pub use denote.Builtin.{RefOf, RefMutOf, RawPtr, unit}
pub use denote.Ref.{MutBor}
pub use denote.Triple.Walked.{Stays, stay_dropped, stay_ref, walk_of, Goes-dropped, Goes-ref}
pub use Rattle.core.proofs.alloc.Calls.{Goes-blank}
pub use Rattle.core.proofs.alloc.Shapes.{after}
pub use Rattle.core.proofs.atomic.Steps.{Ptr-Good, fm}
pub use Rattle.core.proofs.cell.Inside.{Good}
pub use Rattle.std.specs.contracts.alloc.Global as heap
pub use Rattle.std.proofs.alloc.Global.TheLaws as heap_laws
pub use Rattle.std.specs.contracts.impls.GlobalAllocator.TheImpl.{ghosts}
pub use Rattle.node_chain.specs.Nodes.{heap_token}
pub use Rattle.std_alloc.specs.Box.Ownership.{box_owns}
