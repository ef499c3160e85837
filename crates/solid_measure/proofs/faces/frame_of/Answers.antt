use Rattle.solid_measure.proofs.faces.frame_of.Goals as goal

pub returns : goal.returns
returns c = record {
  summed = c.rings_added.ensures.is;
  within = c.rings_added.ensures.within;
  anchored = c.in-Some.ensures.frame.anchored;
  range = c.in-Some.ensures.frame.range;
}
