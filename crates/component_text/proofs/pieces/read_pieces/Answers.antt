use Rattle.std.proofs.Common.{◌≡◌, ◌∙◌, ap, sym, subst, Some, None}
use Rattle.std.specs.List.{AllByRecursion}
use Rattle.component_text.specs.Marks.{marks_of}
use Rattle.component_text.specs.Forms.{limits, parts}
use Rattle.component_text.specs.Machines.{IsComponent}
use Rattle.component_text.specs.Faults.{IsUnexpectedAt, IsTooLargeAt}
use Rattle.component_text.specs.Spelled.{misnamed}
use Rattle.component_text.specs.PrivatePieces.{HasText}
use Rattle.component_text.proofs.Utf8.{all_behind}
use Rattle.component_text.proofs.Texted.{told_wrong_name, told_behind, told_unexpected, told_too_large, component_loosens, component_short, component_named}
use Rattle.component_text.proofs.pieces.read_pieces.Goals as goal

pub returns-in-Some : goal.returns-in-Some
returns-in-Some c =
    let marks = marks_of c.args.text.now c.args.pieces.now.tokens.items in
    let start : c.new.result ≡ marks = c.new.ensures ∙ ap (marks_of c.args.text.now) c.deref.ensures.value in
    let is : misnamed c.args.name.now marks ≡ Some c.in-Some.place = ap (misnamed c.args.name.now) (sym start) ∙ sym c.in_ok-place.ensures ∙ c.in-Some.is in
    told_wrong_name IsComponent c.args.name.now c.args.text.now marks c.args.pieces.now.fault c.fault.result c.in-Some.place is c.fault.ensures
    (λ d w i k. let clash : Some c.in-Some.place ≡ None = sym is ∙ component_named limits marks d c.args.name.now w i in cc)

pub unexpected-requires-clause-texts : goal.unexpected-requires-clause-texts
unexpected-requires-clause-texts c =
    let marks = marks_of c.args.text.now c.args.pieces.now.tokens.items in
    let start : c.new-cursor.result ≡ marks = c.new-cursor.ensures ∙ ap (marks_of c.args.text.now) c.deref-2.ensures.value in
    let stop = rw c.in-Err-Unexpected.field-0-is at c.in-Err-Unexpected.ensures in
    all_behind stop.0.before c.component.new.cursor (subst (λ s. AllByRecursion HasText s) (sym start ∙ stop.0.is) c.requires.texts)

pub returns-in-Some-fault : goal.returns-in-Some-fault
returns-in-Some-fault c =
    let marks = marks_of c.args.text.now c.args.pieces.now.tokens.items in
    let first : c.new.result ≡ marks = c.new.ensures ∙ ap (marks_of c.args.text.now) c.deref.ensures.value in
    let start : c.new-cursor.result ≡ marks = c.new-cursor.ensures ∙ ap (marks_of c.args.text.now) c.deref-2.ensures.value in
    let named : misnamed c.args.name.now marks ≡ None = ap (misnamed c.args.name.now) (sym first) ∙ sym c.in_ok-place.ensures ∙ c.in_default.is in
    told_behind IsComponent c.args.name.now c.args.text.now marks c.args.pieces.now.fault c.cut_fault.result c.in-Ok.component c.in-Some-fault.wrong named
    (component_loosens limits parts tt marks c.in-Ok.component (subst (λ s. IsComponent limits s c.in-Ok.component) start c.in-Ok.ensures))
    (component_short marks c.in-Ok.component (subst (λ s. IsComponent limits s c.in-Ok.component) start c.in-Ok.ensures)) c.in-Some-fault.is c.cut_fault.ensures

pub returns-in-Err-Unexpected : goal.returns-in-Err-Unexpected
returns-in-Err-Unexpected c =
    let marks = marks_of c.args.text.now c.args.pieces.now.tokens.items in
    let first : c.new.result ≡ marks = c.new.ensures ∙ ap (marks_of c.args.text.now) c.deref.ensures.value in
    let start : c.new-cursor.result ≡ marks = c.new-cursor.ensures ∙ ap (marks_of c.args.text.now) c.deref-2.ensures.value in
    let named : misnamed c.args.name.now marks ≡ None = ap (misnamed c.args.name.now) (sym first) ∙ sym c.in_ok-place.ensures ∙ c.in_default.is in
    let stop = rw c.in-Err-Unexpected.field-0-is at c.in-Err-Unexpected.ensures in
    told_unexpected IsComponent c.args.name.now c.args.text.now marks c.args.pieces.now.fault c.unexpected.result c.component.new.cursor named
    (subst (λ s. IsUnexpectedAt IsComponent s c.component.new.cursor) start stop.0) (λ d w. stop.1 d (subst (λ s. IsComponent limits s d) (sym start) w)) c.unexpected.ensures

pub returns-in-Err-TooLarge : goal.returns-in-Err-TooLarge
returns-in-Err-TooLarge c =
    let marks = marks_of c.args.text.now c.args.pieces.now.tokens.items in
    let first : c.new.result ≡ marks = c.new.ensures ∙ ap (marks_of c.args.text.now) c.deref.ensures.value in
    let start : c.new-cursor.result ≡ marks = c.new-cursor.ensures ∙ ap (marks_of c.args.text.now) c.deref-2.ensures.value in
    let named : misnamed c.args.name.now marks ≡ None = ap (misnamed c.args.name.now) (sym first) ∙ sym c.in_ok-place.ensures ∙ c.in_default.is in
    let stop = rw c.in-Err-TooLarge.field-0-is at c.in-Err-TooLarge.ensures in
    told_too_large IsComponent c.args.name.now c.args.text.now marks c.args.pieces.now.fault c.too_large.result c.component.new.cursor named
    (subst (λ s. IsTooLargeAt IsComponent s c.component.new.cursor) start stop.0) (λ d w. stop.1 d (subst (λ s. IsComponent limits s d) (sym start) w)) c.too_large.ensures
