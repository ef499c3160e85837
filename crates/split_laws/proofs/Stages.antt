-- What a split of solid s of M along p goes through until the part above is solid t. Files open of it what they speak of.
use Rattle.split_laws.proofs.Prelude.{ℕ, List, [], Plane, Model, part, below_halves, faces_above, Drawing, holes_closed, Opening, opened_at, section_cycles, upper_faces, with_crossings, with_drawings}

-- what is drawn is opened along the cycles of its section, which begins without caps, and then the holes are closed
pub record Openings : Type 0 where
  pub cycles : List (List ℕ)
  pub begun : Opening
  pub opened : Opening
  pub closed : Model
  pub upper : List ℕ

abbrev pub openings : Drawing → List ℕ → ℕ → Plane → Openings
openings d above s p = let o = opened_at d above s p in record {
  cycles = section_cycles d.model (below_halves d.model above s);
  begun = record { model = d.model; taken = d.taken; caps = [] };
  opened = o;
  closed = holes_closed o.model o.caps;
  upper = upper_faces above o.caps;
}

pub record Stages : Type 0 where
  -- the edges that cross p cut, and then the faces drawn that straddle it
  pub cut : Model
  pub drawing : Drawing
  pub drawn : Model
  pub above : List ℕ
  pub openings : Openings
  pub open openings use *
  -- and then the upper faces parted
  pub parted : Model

abbrev pub stages : Model → ℕ → Plane → ℕ → Stages
stages M s p t =
    let d = with_drawings M s p in
    let above = faces_above d.model p s in
    let o = openings d above s p in
    record { cut = (with_crossings M s p).model; drawing = d; drawn = d.model; above = above; openings = o; parted = part o.closed s t o.upper }
