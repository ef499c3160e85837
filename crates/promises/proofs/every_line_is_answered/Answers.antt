use Rattle.promises.proofs.every_line_is_answered.Goals as goal

pub returns-clause-runs : goal.returns-clause-runs
returns-clause-runs g c = c.run.ensures.runs

pub returns-clause-reached : goal.returns-clause-reached
returns-clause-reached g c = c.run.ensures.reached
