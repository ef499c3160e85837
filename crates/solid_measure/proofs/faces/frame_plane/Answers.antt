use Rattle.solid_measure.specs.Measure.{read}
use Rattle.solid_measure.proofs.Planes.{turned_fits, plane_is, plane_ranges}
use Rattle.solid_measure.proofs.faces.frame_plane.Goals as goal

pub overflow_sub-d : goal.overflow_sub-d
overflow_sub-d c = turned_fits (read c.args.frame.normal) c.args.frame.anchor c.dot-d.result c.requires.normal c.dot-d.ensures.within

pub returns-clause-is : goal.returns-clause-is
returns-clause-is c = plane_is (read c.args.frame.normal) c.args.frame.anchor c.dot-d.result c.requires.normal c.dot-d.ensures.within c.dot-d.ensures.is

pub returns-clause-range : goal.returns-clause-range
returns-clause-range c = plane_ranges (read c.args.frame.normal) c.args.frame.anchor c.dot-d.result c.requires.normal c.dot-d.ensures.within
