use Rattle.std.proofs.Common.{rules, vec_len, subst, sym, ◌∙◌, ◌-◌, length, arith, ◌≡◌, ◌+◌}
use Rattle.session_lines.specs.Private.{HasNoFeed, IsFirstFeed, Unread}
use Rattle.session_lines.proofs.Scanned.{not_found, found, all_left}
use Rattle.session_lines.proofs.lines.Lines.line_feed.Goals as goal

pub returns-in-Some-clause-found : goal.returns-in-Some-clause-found
returns-in-Some-clause-found c = let i = c.self.invariant in
    subst (λ (f : Unread). IsFirstFeed f.left (c.self.inside.scanned + c.in-Some.at - c.self.inside.start)) c.self.view_is
    (found c.self.inside.bytes.items c.deref.result.now c.self.inside.start c.self.inside.scanned c.deref.ensures.value i.0 i.1 i.2 c.in-Some.at c.in-Some.ensures)

pub returns-in-None-clause-found : goal.returns-in-None-clause-found
returns-in-None-clause-found c = let i = c.self.invariant in
    subst (λ (f : Unread). HasNoFeed f.left) c.self.view_is
    (not_found c.self.inside.bytes.items c.deref.result.now c.self.inside.start c.self.inside.scanned c.deref.ensures.value i.0 i.1 i.2 c.in-None.ensures)

pub invariant_of-self : goal.invariant_of-self
invariant_of-self c = let i = c.self.invariant in
    let none = not_found c.self.inside.bytes.items c.deref.result.now c.self.inside.start c.self.inside.scanned c.deref.ensures.value i.0 i.1 i.2 c.in-None.ensures in
    let size : vec_len c.self.inside.bytes ≡ length c.self.inside.bytes.items = search rules in
    let len : c.len-self-inside.result ≡ length c.self.inside.bytes.items = c.len-self-inside.ensures ∙ size in
    (omega (arith, i.0, i.1, len), omega (arith, len), subst HasNoFeed (sym (all_left c.self.inside.bytes.items c.self.inside.start c.len-self-inside.result len)) none)
