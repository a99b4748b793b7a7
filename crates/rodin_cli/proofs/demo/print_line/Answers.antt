use Rattle.std.proofs.Common.{◌∙◌, subst}
use Rattle.session_streams.specs.Streams.{AppendsFront}
use Rattle.rodin_cli.proofs.Known.{Appends-same}
use Rattle.rodin_cli.proofs.Sessions.{Keeps-same}
use Rattle.rodin_cli.proofs.demo.print_line.Goals as goal

pub returns-in-Err-clause-stopped : goal.returns-in-Err-clause-stopped
returns-in-Err-clause-stopped g c = Keeps-same _

pub returns-in-Ok-write_text-clause-whole : goal.returns-in-Ok-write_text-clause-whole
returns-in-Ok-write_text-clause-whole g c =
    Appends-same (g.O.Sink.written c.args.output.now) (g.O.Sink.written c.write_text.new.output) c.as_bytes.result.now _
    (c.as_bytes.ensures.value ∙ c.as_str.ensures.value ∙ c.in-Ok.ensures) c.in-Ok-write_text.ensures.whole

pub returns-clause-stopped : goal.returns-clause-stopped
returns-clause-stopped g c = (
  c.in-Err-write_text.ensures.failed,
  subst (AppendsFront (g.O.Sink.written c.args.output.now) (g.O.Sink.written c.write_text.new.output)) (c.as_bytes.ensures.value ∙ c.as_str.ensures.value ∙ c.in-Ok.ensures)
      c.in-Err-write_text.ensures.front,
)
