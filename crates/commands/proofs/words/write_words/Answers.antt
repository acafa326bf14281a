use Rattle.std.proofs.Common.{ap, ◌∙◌, refl}
use Rattle.std.specs.Str.Iter.{split_whitespace_rest}
use Rattle.text_streams.proofs.StreamLemmas.{on_err, on_err_map, on_ok_map, beginning_nothing, keeps_same}
use Rattle.word_counts.proofs.WordLemmas.{word_comes_off}
use Rattle.commands.proofs.Progress.{progress_begins, next_word, flushed, begun, finished}
use Rattle.commands.proofs.words.write_words.Goals as goal

pub loop-word-init : goal.loop-word-init
loop-word-init g c =
    let rest_is_text = ap split_whitespace_rest c.into_iter-word-iterator.ensures.into_iter_gives ∙ c.split_whitespace-word-items.ensures.rest in (
      c.requires,
      rw (rest_is_text, c.new-pending.ensures.bytes)
          (progress_begins (g.K.Sink.contents c.args.writer.now) c.args.text.now c.none_seen-counts.result c.utf8.text (λ word. rw c.none_seen-counts.ensures.empty refl)),
    )

pub returns-in_err-intern-clause-err : goal.returns-in_err-intern-clause-err
returns-in_err-intern-clause-err g c = on_err _ (begun c.loop-word.invariant.1 _ (beginning_nothing _ _ _ (keeps_same _)))

pub returns-in_err-tell_word-clause-err : goal.returns-in_err-tell_word-clause-err
returns-in_err-tell_word-clause-err g c = on_err _ (begun c.loop-word.invariant.1 _ (beginning_nothing _ _ _ (keeps_same _)))

pub returns-in_err-write_full-clause-err : goal.returns-in_err-write_full-clause-err
returns-in_err-write_full-clause-err g c =
    let before = c.loop-word.invariant.1 in
    let comes = word_comes_off before.left _ c.in-Some.word.now _ before.spells c.in-Some.ensures.steps in
    on_err _ (begun (next_word before {counts' = c.tell_word.new.counts} comes c.in_ok-tell_word.ensures.counted c.in_ok-tell_word.ensures.line) _ c.in_err-write_full.ensures.err)

pub loop-word-preserved : goal.loop-word-preserved
loop-word-preserved g c =
    let before = c.loop-word.invariant.1 in
    let comes = word_comes_off before.left _ c.in-Some.word.now _ before.spells c.in-Some.ensures.steps in
    (c.in_ok-write_full.ensures.sound, flushed (next_word before {counts' = c.tell_word.new.counts} comes c.in_ok-tell_word.ensures.counted c.in_ok-tell_word.ensures.line) c.in_ok-write_full.ensures.ok)

pub returns-clause-ok : goal.returns-clause-ok
returns-clause-ok g c =
    on_ok_map _ (finished c.loop-word.invariant.1 _ c.in-None.ensures.steps.1) (rw c.as_bytes.ensures.value at c.write_whole.ensures.ok)

pub returns-clause-err : goal.returns-clause-err
returns-clause-err g c =
    on_err_map _ (begun c.loop-word.invariant.1 _) (rw c.as_bytes.ensures.value at c.write_whole.ensures.err)
