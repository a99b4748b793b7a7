use Rattle.rodin_cli.proofs.Rounds.{first_line_is, second_line_is}
use Rattle.rodin_cli.proofs.demo.line_after.Goals as goal

pub returns-in_ok-format-in-Models : goal.returns-in_ok-format-in-Models
returns-in_ok-format-in-Models c = first_line_is _ c.args.round c.in-Models.seed c.in-Models.n c.args.counted c.in-Models.is c.in_ok-format-in-Models.ensures.ok

pub returns-in_ok-format-in-Edit : goal.returns-in_ok-format-in-Edit
returns-in_ok-format-in-Edit c = second_line_is _ c.args.round c.in-Edit.n c.args.counted c.in-Edit.is c.in_ok-format-in-Edit.ensures.ok
