use Rattle.std.proofs.Common.{◌∙◌, sym}
use Rattle.component_text.proofs.Utf8.{first_is}
use Rattle.component_text.proofs.cursor.Cursor.first.Goals as goal

pub returns-in-Some : goal.returns-in-Some
returns-in-Some c =
    let f = first_is c.self.inside.text.now c.self.inside.rest.now c.in-Some.token.now c.in-Some.ensures.value in
    (f.0, f.1, sym c.self.view_is ∙ f.2, f.3, c.bytes_of.ensures ∙ f.4)
