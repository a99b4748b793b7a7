use Rattle.std.proofs.Common.{rules, ◌≡◌, ℕ, List, [], subst, arith}
use Rattle.turn_desk.specs.Chairs.{AreNew}
use Rattle.prover_pool.specs.Shift.{fair, WasServed}
use Rattle.prover_pool.proofs.Shifts.{each_was_served}
use Rattle.pool_run.specs.declared.tray.Entry.{Entry}
use Rattle.pool_run.specs.Tray.{chair_of_entry, tray_meaning, log_of, tray_marks_last}
use Rattle.pool_run.proofs.work.work_beside.Goals as goal

pub returns-clause-served : goal.returns-clause-served
returns-clause-served g c k low high =
    let made : c.in_ok-desk.first.made ≡ 1 = search rules in
    let none : c.in_ok-desk.first.seen ≡ [] = search rules in
    let new : AreNew c.in_ok-desk.first 1 c.split_all.new.chairs.items = subst (λ n. AreNew c.in_ok-desk.first n c.split_all.new.chairs.items) made c.split_all.ensures.made in
    let base : c.in_ok-desk.desk.base ≡ c.args.tray.room = search rules in
    subst (λ (z : ℕ × List Entry). WasServed chair_of_entry tray_meaning (fair (g.P.Prover.answers c.args.tools.now.prover.now) (g.P.Prover.sure c.args.tools.now.prover.now)) z.0 k z.1 (log_of c.close.result)) (λ i. (base i, none i))
    (each_was_served chair_of_entry tray_meaning (fair (g.P.Prover.answers c.args.tools.now.prover.now) (g.P.Prover.sure c.args.tools.now.prover.now)) c.in_ok-desk.desk.base c.in_ok-desk.first c.join_all.new.self _ _ new c.use_beside.ensures.chairs c.use_beside.ensures.served c.join_all.ensures.each _ c.close.ensures.log c.close.ensures.joined (tray_marks_last c.close.result) k low
    (let n = c.split_all.ensures.count in omega (arith, high, n)))
