use Rattle.std.proofs.Common.{Err, inl, map, string_bytes, subst}
use Rattle.tool_calls.proofs.WordsLemmas.{IsRead, bad_not_shown, shown_not_refused}
use Rattle.tool_words.specs.declared.words_err.WordsErr.{WordsErr}
use Rattle.tool_calls.proofs.tool.smsc_main.Goals as goal

pub returns-in-Ok-clause-words : goal.returns-in-Ok-clause-words
returns-in-Ok-clause-words g c = inl (inl (record { task = c.in-Ok.task; asked = c.in-Ok.ensures.asked; ends = c.answer_source.ensures.ends }))

pub returns-in-Err-Bad-clause-shown : goal.returns-in-Err-Bad-clause-shown
returns-in-Err-Bad-clause-shown g c shown =
    let words = map string_bytes c.args.words.now in
    absurd (bad_not_shown {words = words} (subst (λ (e : WordsErr). IsRead words (Err e)) c.in-Err-Bad.field-0-is c.in-Err-Bad.ensures.exactly) shown)

pub returns-in-Err-Shown-clause-refused : goal.returns-in-Err-Shown-clause-refused
returns-in-Err-Shown-clause-refused g c refused =
    let words = map string_bytes c.args.words.now in
    absurd (shown_not_refused {words = words} (subst (λ (e : WordsErr). IsRead words (Err e)) c.in-Err-Shown.field-0-is c.in-Err-Shown.ensures.exactly) refused)
