-- What clauses see of a `PhfStrSet`.
use Rattle.text_forms.specs.declared.static_sets.PhfStrSet.{PhfStrSet}
use Rattle.text_forms.specs.Parts.{parts}
use Rattle.text_forms.specs.Tables.{Tables}

-- its static tables: key, displacements, texts and hashes
abbrev pub tables_of : PhfStrSet → Tables
tables_of set = parts set.key set.disps.now set.atoms.now set.hashes.now
