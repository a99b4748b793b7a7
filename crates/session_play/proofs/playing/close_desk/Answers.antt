use Rattle.session_play.proofs.playing.close_desk.Goals as goal

pub returns-clause-marks : goal.returns-clause-marks
returns-clause-marks g c = g.met.V.Work.marks_last c.close.result
