use Rattle.std.proofs.Common.{rules, string_bytes}
use Rattle.std.proofs.lemmas.Str.{IsUtf8-string_bytes}
use Rattle.std.specs.Str.{IsUtf8}
use Rattle.text_streams.proofs.StreamLemmas.{told_of_all}
use Rattle.text_streams.proofs.streams.read_text.Goals as goal

pub returns-in-Ok-clause-utf8 : goal.returns-in-Ok-clause-utf8
returns-in-Ok-clause-utf8 g c =
    told_of_all IsUtf8 _ _ c.in_ok-bytes.bytes.items (string_bytes c.in-Ok.text) c.in_ok-bytes.ensures.bytes c.in_ok-bytes.ensures.end (search rules) (IsUtf8-string_bytes c.in-Ok.text)
