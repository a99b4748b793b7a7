use Rattle.std.proofs.Common.{ℕ, List, sym, ◌∙◌, ap, subst, refl, [], ◌∷◌, ◌++◌, append_assoc, map, arith}
use Rattle.std.specs.Arc.{arc_value}
use Rattle.std.specs.List.{Contains}
use Rattle.std.proofs.lemmas.Result.{err_from_is_err_and}
use Rattle.std.proofs.lemmas.List.Elements.{Contains-append_left, Contains-append_right, Contains-push}
use Rattle.po_rules.specs.Gathering.{table_nodes}
use Rattle.build_core.specs.Private.{own_list}
use Rattle.build_core.proofs.EachOwn.{AreOwn}
use Rattle.build_core.proofs.Gathers.{own_more}
use Rattle.build_core.proofs.Collecting.{table_both, passes_whole, own_both, owns_there, haves_more, done_all}
use Rattle.build_core.proofs.Rounds.{is_there}
use Rattle.build_core.proofs.Whole.{whole_owns, whole_table, whole_full}
use Rattle.build_core.proofs.gathering.collect.Goals as goal

pub loop-name-preserved : goal.loop-name-preserved
loop-name-preserved c =
    let components = c.args.judged.now.components in
    let outcomes = c.args.judged.now.progress.outcomes in
    let done = c.loop-name.invariant.done in
    let own = c.in_ok-own.own in
    let of = c.in_ok-own.ensures.own in
    let now = map arc_value c.loop-name.out.obligations.items in
    let e : List ℕ × List ℕ = (c.in-Some.name.now, c.in-Some.field-0-1.now) in
    let all = ap (λ rest. done ++ rest) (sym c.in-Some.ensures.steps) ∙ c.loop-name.invariant.all in
    let there : Contains c.args.texts.now.entries e = subst (λ es. Contains es e) all
    (Contains-append_right done (e ∷ c.next.new.self) e (Contains-append_left (e ∷ []) c.next.new.self e (Contains-push [] e))) in
    record {
      done = done ++ e ∷ [];
      all = append_assoc done (e ∷ []) c.next.new.self ∙ all;
      table = subst (AreOwn components outcomes (done ++ e ∷ [])) (sym c.in_ok-add_own.ensures.obligations)
          (own_more components outcomes done e now (own_list own) c.loop-name.invariant.table of.0);
      nodes = omega (arith, c.in_ok-add_own.ensures.nodes, c.loop-name.invariant.nodes, of.1, ap table_nodes c.in_ok-add_own.ensures.obligations, table_both now (own_list own));
      within = omega (arith, c.in_ok-add_own.ensures.nodes, c.in_ok-own.ensures.fits);
      owns = haves_more components outcomes c.args.texts.now.entries c.loop-name.out.owns.entries c.add_own.new.out.owns.entries e.0 own
          c.loop-name.invariant.owns c.in_ok-add_own.ensures.owns (is_there c.args.texts.now.entries c.requires.judged.judged.once e.0 e.1 there) of;
    }

pub returns-in_err-own-clause-full : goal.returns-in_err-own-clause-full
returns-in_err-own-clause-full c n is =
    let components = c.args.judged.now.components in
    let outcomes = c.args.judged.now.progress.outcomes in
    let done = c.loop-name.invariant.done in
    let now = map arc_value c.loop-name.out.obligations.items in
    let exit = err_from_is_err_and c.from_residual.result c.from_residual.ensures.1 in
    let full = c.in_err-own.ensures.full n (cc (exit.1, exit.2, is)) in
    let e : List ℕ × List ℕ = (c.in-Some.name.now, c.in-Some.field-0-1.now) in
    let all = ap (λ rest. done ++ rest) (sym c.in-Some.ensures.steps) ∙ c.loop-name.invariant.all in
    let others = owns_there components outcomes c.requires.judged.whole c.next.new.self in
    let whole = own_both components outcomes done (e ∷ c.next.new.self) now (full.0 ++ others.0) c.loop-name.invariant.table (full.0, others.0, full.1, others.1, refl) in
    whole_full c.args.texts.now.entries components outcomes c.requires.judged (now ++ (full.0 ++ others.0)) n
    (subst (λ es. AreOwn components outcomes es (now ++ (full.0 ++ others.0))) all whole) full.2.0
    (passes_whole now full.0 others.0 c.loop-name.out.nodes n c.loop-name.invariant.nodes c.loop-name.invariant.within full.2)

pub returns-clause-table : goal.returns-clause-table
returns-clause-table c =
    let components = c.args.judged.now.components in
    let outcomes = c.args.judged.now.progress.outcomes in
    whole_table c.args.texts.now.entries components outcomes c.requires.judged (map arc_value c.loop-name.out.obligations.items)
    (subst (λ es. AreOwn components outcomes es (map arc_value c.loop-name.out.obligations.items)) (done_all c.loop-name.invariant.done c.loop-name.name-iterator c.args.texts.now.entries c.in-None.ensures.steps.0 c.loop-name.invariant.all) c.loop-name.invariant.table)

pub returns-clause-owns : goal.returns-clause-owns
returns-clause-owns c =
    whole_owns c.args.texts.now.entries c.args.judged.now.components c.args.judged.now.progress.outcomes c.requires.judged c.loop-name.out.owns.entries c.loop-name.invariant.owns
