-- One step of a split within a solid: whatever isn't of the solid stays, and nothing else comes to be of another.
use Rattle.command_laws.proofs.Prelude.{◌≡◌, ◌≢◌, ℕ, true, false, cond, List, Option, Some, None, is_some, refl, sym, ap, subst, ◌∙◌, true≢false, ne_eqb, Bool, nat_eq, eq-eqb, option_map, arith, eqb-false, false_from_ne_true, edge_of, Model, LoopRow, face_of, outer, solid_of, content, Sound, Has, HasHalf, lists, effect, faces_to_solid, first_false, kfmrh, loop_to_face, part, ring_in, Table, Kfmrh, code-half, plus_row, same_edge, face_row, same_solid, solid_row, face_there, mapped_some, solid_either, loop_row, CanDraw, CanJoin, draw_accepted, face_drawn, join_accepted, loops_joined}
use Rattle.euler_operators.specs.Table as table
use Rattle.command_laws.proofs.Inner.{AgreeBut, kfmrh_within, mef_within, mekr_within}
use Rattle.command_laws.proofs.Owners.{Agree, half_kept, is_either, is_of, neither, not_either, solid_of_edge, solid_of_half, solid_of_loop, turned, is_it}

-- an edge is of the solid of each of its halves
pub own_edge : (M : Model) → Sound M → (h : ℕ) → HasHalf M h → solid_of_edge M (edge_of h) ≡ solid_of_half M h
own_edge M sound h there = grind (arith, same_edge, plus_row, solid_of_half)

module _ (s : ℕ) (M N : Model) (w : AgreeBut s M N) where
  -- what was of the solid is
  pub half_in : (h : ℕ) → HasHalf M h → HasHalf N h → solid_of_half M h ≡ s → solid_of_half N h ≡ s
  half_in h there now of = is_it s (solid_of_half N h) (λ out. eqb-false (solid_of_half M h) s (half_kept N M (is_of s) (is_of s) (turned M N (is_of s) (is_of s) w) h now out).1 of)

  pub face_in : (k : ℕ) → Has N.faces k → solid_of M k ≡ s → solid_of N k ≡ s
  face_in k now of = is_it s (solid_of N k) (λ out. eqb-false (solid_of N k) s out (same_solid M N k (w.faces_back k now out).0 ∙ of))

-- ---- operators within the solid: an edge drawn in a face, two loops of a face joined, a face that becomes a ring of another

pub draw_within : (N : Model) (u k e g l s : ℕ) → CanDraw N u k e g l → solid_of_half N u ≡ s → AgreeBut s N (face_drawn N u k e g l)
draw_within N u k e g l s can of =
    subst (λ x. AgreeBut x N (face_drawn N u k e g l)) (ap (solid_of_half N) (code-half u) ∙ of) (mef_within _ _ _ g l N can.sound (draw_accepted N u k e g l can))

pub join_within : (N : Model) (c d e s : ℕ) → CanJoin N c d e → solid_of_half N c ≡ s → AgreeBut s N (loops_joined N c d e)
join_within N c d e s can of =
    subst (λ x. AgreeBut x N (loops_joined N c d e)) (ap (solid_of_half N) (code-half c) ∙ of) (mekr_within N can.sound _ _ _ (join_accepted N c d e can))

pub kill_within : (N : Model) → Sound N → (f g s : ℕ) → first_false N (Kfmrh f g) ≡ None → solid_of N f ≡ s → AgreeBut s N (kfmrh N f g)
unfolding effect
kill_within N sound f g s accepted of = subst (λ x. AgreeBut x N (kfmrh N f g)) of (kfmrh_within N sound f g accepted)

-- ---- a ring given to another face

-- another loop keeps its row
pub loop_else : (t : Table LoopRow) (l k q : ℕ) → q ≢ l → table.get (table.map_rows (loop_to_face l k) t) q ≡ table.get t q
loop_else t l k q ne = table.get-map_rows (loop_to_face l k) t q ∙ row_stays (table.get t q) where
  row_stays : (o : Option LoopRow) → option_map (loop_to_face l k q) o ≡ o
  row_stays None = refl
  row_stays (Some row) = ap (λ b. Some (cond b (record row { face = k }) row)) (ne_eqb q l ne)

-- the ring's face is the other then
pub ring_face : (N : Model) (l k : ℕ) → Has N.loops l → face_of (ring_in N l k) l ≡ k
unfolding ring_in
ring_face N l k there = face_row (ring_in N l k) l _ (table.get-map_rows (loop_to_face l k) N.loops l ∙ ap (option_map (loop_to_face l k l)) (loop_row N l there)) ∙ face_either (nat_eq l l) (eq-eqb l l refl) where
  face_either : (b : Bool) → b ≡ true → (cond {A = LoopRow} b (record { face = k; content = content N l }) (record { face = face_of N l; content = content N l })).face ≡ k
  face_either true e = refl
  face_either false e = absurd (true≢false (sym e))

module _ (N : Model) (l k s : ℕ) (sound : Sound N) (after : Sound (ring_in N l k)) (there : Has N.loops l) (of : solid_of_loop N l ≡ s) (to : solid_of N k ≡ s) where
  abbrev R : Model
  R = ring_in N l k

  ring_now : solid_of_loop R l ≡ s
  unfolding ring_in
  ring_now = ap (solid_of R) (ring_face N l k there) ∙ same_solid N R k refl ∙ to

  pub ring_within : AgreeBut s N (ring_in N l k)
  unfolding ring_in
  ring_within = grind (arith, loop_else, eqb-false, solid_of_loop, ring_now)

-- ---- some faces parted

module _ (N : Model) (s t : ℕ) (fs : List ℕ) (sound : Sound N) (after : Sound (part N s t fs)) (of : (f : ℕ) → lists fs f ≡ true → Has N.faces f → solid_of N f ≡ s) (fresh : table.has N.solids t ≡ false) where
  abbrev P : Model
  P = part N s t fs

  part_row : (q : ℕ) → table.get P.faces q ≡ option_map (faces_to_solid (λ f _. lists fs f) t q) (table.get N.faces q)
  unfolding part
  part_row q = table.get-map_rows (faces_to_solid (λ f _. lists fs f) t) N.faces q

  part_had : (q : ℕ) → Has P.faces q → Has N.faces q
  part_had q there = sym (mapped_some (faces_to_solid (λ f _. lists fs f) t q) (table.get N.faces q)) ∙ ap is_some (sym (part_row q)) ∙ there

  part_kept : (q : ℕ) → lists fs q ≡ false → table.get P.faces q ≡ table.get N.faces q
  part_kept q e = grind (arith, part_row)

  part_solid : (q : ℕ) → Has N.faces q → lists fs q ≡ true → solid_of P q ≡ t
  part_solid q there e = solid_row P q _ (part_row q ∙ ap (option_map (faces_to_solid (λ f _. lists fs f) t q)) (face_there N q there))
      ∙ solid_either (lists fs q) (record { solid = solid_of N q; outer = outer N q }) t ∙ ap (λ b. cond b t (solid_of N q)) e

  kept_loops : (q : ℕ) → table.get P.loops q ≡ table.get N.loops q
  unfolding part
  kept_loops q = refl

  kept_edges : (q : ℕ) → table.get P.edges q ≡ table.get N.edges q
  unfolding part
  kept_edges q = refl

  pub part_agrees : Agree N (part N s t fs) (is_of s) (is_either s t)
  part_agrees = record {
    before = sound;
    after = after;
    faces = λ q there out. let ne = eqb-false (solid_of N q) s out in (
      part_kept q (false_from_ne_true (lists fs q) (λ i. ne (of q i there))),
      not_either s t (solid_of N q) ne (λ e. true≢false (sym (sound.faces_of_solids q there) ∙ ap (table.has N.solids) e ∙ fresh)),
    );
    faces_back = λ q there out. let ne = neither s t (solid_of P q) out in (part_kept q (false_from_ne_true (lists fs q) (λ i. ne.1 (part_solid q (part_had q there) i))), ne_eqb (solid_of P q) s ne.0);
    loops = λ q there out. kept_loops q;
    loops_back = λ q there out. kept_loops q;
    edges = λ h there out. kept_edges (edge_of h);
  }
