use Rattle.std.proofs.Common.{◌≡◌, ◌<◌, ◌^◌, [], ◌∷◌, ◌++◌, arith, length-append, rules}
use Rattle.std.proofs.lemmas.List.{map_push}
use Rattle.std.proofs.lemmas.List.Elements.{All-push}
use Rattle.table_generator.specs.Generated.{texts_of}
use Rattle.table_generator.specs.TableText.{HasNoFeed}
use Rattle.table_generator.proofs.Reading.{atoms_pushed}
use Rattle.table_generator.proofs.check.listed_and_rest.Goals as goal

pub loop-hash-preserved : goal.loop-hash-preserved
loop-hash-preserved c =
    let old = c.loop-hash.invariant in
    let hashes = c.loop-hash.hashes.items in
    let atoms = c.loop-hash.atoms.items in
    let more_texts : texts_of (atoms ++ (c.in-Some.atom ∷ [])) ≡ texts_of atoms ++ (c.in-Some.atom.now ∷ []) = map_push (λ text. text.now) atoms c.in-Some.atom in
    rw (c.in_ok-push.ensures.items, c.in_ok-push-2.ensures.items, more_texts) (record {
      utf8 = search rules;
      is = atoms_pushed c.args.text.now hashes (texts_of atoms) c.in-Some.hash c.in-Some.atom.now c.loop-hash.rest.now c.in-Some.more.now old.count old.is c.in-Some.ensures.1;
      count = omega (arith, old.count, length-append hashes (c.in-Some.hash ∷ []), length-append (texts_of atoms) (c.in-Some.atom.now ∷ []));
      small = All-push (λ hash. hash < 2 ^ 64) hashes c.in-Some.hash old.small (search rules);
      one_line = All-push HasNoFeed (texts_of atoms) c.in-Some.atom.now old.one_line c.in-Some.ensures.0;
    })

-- what is left begins with no line of a text
pub returns : goal.returns
returns c =
    let read = c.loop-hash.invariant in
    record {
      is = read.is;
      count = read.count;
      small = read.small;
      one_line = read.one_line;
      ends = c.in_default.ensures;
    }
