use Rattle.std.proofs.Common.{◌≡◌, [], ◌∷◌, ◌++◌, ◌∙◌, subst, sym}
use Rattle.set_atoms.proofs.atom.list.ListOf.pop.Goals as goal

-- what was the last place is the atom that comes out
pub returns : goal.returns
returns g c = subst (λ atom. c.args.self.now ≡ c.pop.new.self.items ++ atom ∷ []) (sym c.into_atom.ensures) (sym c.self.view_is ∙ c.in_ok-place.ensures.items)
