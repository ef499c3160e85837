use Rattle.split_opening_laws.proofs.caps.Whole.{two_strips, joins, caps_lead, capped_sound}
use Rattle.split_opening_laws.proofs.strips_make_caps.Goals as goal

pub returns : goal.returns
returns c = record {
  two = two_strips;
  accepted = λ N s c hs sound w. (caps_lead N s c hs sound w).accepted;
  joined = λ N s c hs n sound w l. (joins N s c hs sound w n l).made;
  made = λ N s c hs sound w. (caps_lead N s c hs sound w).made;
  sound = capped_sound;
}
