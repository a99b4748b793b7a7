use Rattle.std.proofs.Common.{rules, ◌≡◌, sym, subst, arith}
use Rattle.project_store.specs.declared.fault.BodyFault.TheVariants.{Bad}
use Rattle.project_store.specs.Records.{after_all}
use Rattle.project_store.specs.Private.{HasShortTexts}
use Rattle.project_store.proofs.Replays.{no_body, too_many, one_reading, body_fault_of}
use Rattle.project_store.proofs.Shorts.{stays_short}
use Rattle.project_store.proofs.opening.replay_body.Goals as goal

pub returns-in-Err-clause-stop : goal.returns-in-Err-clause-stop
returns-in-Err-clause-stop g c = λ e. no_body c.in-Err.fault c.args.durable.now c.args.body.now c.in-Err.ensures.good (body_fault_of c.in-Err.fault Bad e)

pub returns-then-len-gt-MOST_TEXTS-clause-stop : goal.returns-then-len-gt-MOST_TEXTS-clause-stop
returns-then-len-gt-MOST_TEXTS-clause-stop g c = λ e.
    let entered : c.enter_all.new.durable ≡ after_all c.args.durable.now c.in-Ok.entries.items = search rules in
    too_many c.args.durable.now c.enter_all.new.durable c.args.body.now c.in-Ok.entries.items c.in-Ok.ensures.only entered (omega (arith, c.len.ensures, c.if-len-gt-MOST_TEXTS.true))

pub returns-clause-single : goal.returns-clause-single
returns-clause-single g c = one_reading c.args.body.now c.in-Ok.entries.items c.in-Ok.ensures.only

pub returns-clause-short : goal.returns-clause-short
returns-clause-short g c =
    let entered : c.enter_all.new.durable ≡ after_all c.args.durable.now c.in-Ok.entries.items = search rules in
    subst HasShortTexts (sym entered) (stays_short c.args.durable.now c.args.body.now c.in-Ok.entries.items c.requires.short c.in-Ok.ensures.read)
