-- `new` makes a value of no bytes, which has the number of the argument.
use Rattle.counted_cell.proofs.Names.{◌≡◌, ℕ, [], ◌∷◌, refl, w64, proved, leaves, Val, vint, vstruct, vcons, vnil, SProp, emp, fact, fact_i, Fml, ‵, raw, ◌⊛◌, ◌$◌, ◌∵◌, !, qed, by, keep, split, fjoin, use0, no_more, and_then, returns, enter, alloc_all, pass_all, free_all, look_at, get, sets, agg, tables, yes, owns, types_at, plain, nothing, u64, uint_vals, uint_Tells, Stays, stay_dropped, walk_of, Goes-dropped}
use denote.Shadow.{makes_shadow}
use denote.Triple.Entry.{alive}
use Rattle.counted_cell.specs.contracts.note.Note as note
use Rattle.counted_cell.specs.contracts.note.Note.new.{ended, clauses}
use Rattle.counted_cell.specs.contracts.note.Note.new.Key.{name as #self}
use Rattle.counted_cell.proofs.note.Note.new.Statement.{statement}
use Rattle.counted_cell.proofs.note.Note.new.Code as code

pub new_spec : {M : Type 1} → statement M
new_spec 𝓤 𝓛 𝓜 𝓡 wired =
    let H = 𝓛.H in let 𝓣 = tables 𝓤 H 𝓜 𝓡 𝓡.env in let fn = code.function in let c = clauses 𝓛 𝓜.mem 𝓡.returns in
    let arg = plain (λ _. u64) in let hs : Stays ended.signature.params ended.kept = (stay_dropped arg yes, tt) in
    proved 𝓛 ended hs c 𝓜 𝓡 (Goes-dropped 𝓛 0 arg yes (λ κs x f. refl), tt) #self fn (code.unfolded 𝓤 H 𝓜 𝓡 wired)
    (λ κs. (uint_vals w64, tt)) (λ κs. (uint_Tells w64, tt)) (λ κs qs bounds a gh are.
    let n : ℕ = a.0 in let v : Val = vint w64 n in let token : Val = vstruct (vcons (vstruct vnil) vnil) in let r : note.the_row.Denot = record { mark = record {}; number = n } in let F : Fml = note.the_row.own_val r (token ∷ []) in
    let y : (walk_of 𝓛 ended hs c).Ghost = ((κs, qs, bounds, a, (v ∷ [], tt)), gh) in let Post : Val → SProp 𝓤 = (walk_of 𝓛 ended hs c).post y in
    qed 𝓛 ((raw (alive 𝓛 ended.signature κs qs) ⊛ ‵ (owns (types_at ended.signature.params κs) a y.0.4)) ∷ raw ((c κs a).requires gh) ∷ []) ∵ split ! $ keep ! (0 ∷ []) $
    enter ! 𝓣.C 𝓣.Λ fn (v ∷ []) Post $ alloc_all ! (λ l. pass_all ! refl ((tt, record { fits = are.0.1 }), tt) $
    sets ! (agg ! (no_more !)) refl (tt, tt) $ sets ! (agg ! (and_then ! (get ! refl) (no_more !))) refl (tt, (tt, tt)) $
    use0 𝓛 (raw (fact 𝓤 (n ≡ n))) (fact_i 𝓤 (n ≡ n) (emp 𝓤) refl) $
    use0 𝓛 (‵ F) (makes_shadow 𝓛 F ((λ vss. (tt, ((λ uss. (tt, tt)), tt))), tt) (((vstruct vnil ∷ [], tt), (refl, ((tt, (refl, tt)), tt))), tt)) $ nothing ! $ nothing ! $ fjoin ! $
    returns ! (look_at ! 0 refl) $ free_all ! refl $ keep ! (3 ∷ 0 ∷ 1 ∷ 2 ∷ []) $ by ! (leaves 𝓛 ended hs c y token r (tt, tt) (tt, tt))))
