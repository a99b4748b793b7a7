use Rattle.std.proofs.Common.{◌∙◌, ap, sym}
use Rattle.math_grammar.specs.Tokens.{item_of, bytes_of}
use Rattle.component_text.specs.Marks.{is_word_mark, is_at}
use Rattle.component_text.specs.PrivateTexts.{is_word_text}
use Rattle.component_text.proofs.Marks.{word_test, at_first}
use Rattle.component_text.proofs.cursor.Cursor.is_at_word.Goals as goal

pub returns-in-Some : goal.returns-in-Some
returns-in-Some c =
    let text = c.self.inside.text.now in
    let token = c.in-Some.token.now in
    c.is_word.ensures ∙ ap (λ w. is_word_text w c.bytes_of.result.now) c.as_bytes.ensures.value ∙ ap (is_word_text c.args.word.now) c.bytes_of.ensures
    ∙ sym (word_test (bytes_of text token) token.from (item_of text token) c.args.word.now)
    ∙ sym (at_first (is_word_mark c.args.word.now) text c.self.inside.rest.now token c.in-Some.ensures.value)
    ∙ ap (is_at (is_word_mark c.args.word.now)) c.self.view_is
