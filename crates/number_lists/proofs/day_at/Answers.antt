-- `number_lists::day_at` meets its contract: the list's day is folded and hashed, and looked for among the days before.
use Rattle.std.proofs.Common.{◌∙◌, ap, ◌%◌, length, arith}
use Rattle.definition.specs.Group.{day_class}
use Rattle.day_flat.specs.Day.{unflat, fingerprint_of}
use Rattle.words.proofs.Sets.{part-taken}
use Rattle.number_lists.proofs.day_at.Goals as goal

pub find_day-number-requires-clause-words_value : goal.find_day-number-requires-clause-words_value
find_day-number-requires-clause-words_value c =
    let folded = c.fold_box-word_count in
    let ready = c.requires.all_ready.0 (length c.args.hashes.now) (omega arith) in
    let day = part-taken folded.new.words 0 folded.result (omega (arith, folded.ensures.1, ready.wordy, folded.auto.words)) ∙ folded.ensures.0 in
    (day, ap (λ n. n % 65536) (c.fingerprint.ensures ∙ ap (fingerprint_of 0) day), c.requires.hashed)

pub returns : goal.returns
returns c =
    let folded = c.fold_box-word_count in
    let ready = c.requires.all_ready.0 (length c.args.hashes.now) (omega arith) in
    let day = part-taken folded.new.words 0 folded.result (omega (arith, folded.ensures.1, ready.wordy, folded.auto.words)) ∙ folded.ensures.0 in
    record {
      hashed = ap (λ n. n % 65536) (c.fingerprint.ensures ∙ ap (fingerprint_of 0) day);
      first = c.find_day-number.ensures;
      classed = c.day_class.ensures ∙ ap (λ w. day_class (unflat w)) day;
    }
