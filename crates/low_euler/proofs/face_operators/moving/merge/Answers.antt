use Rattle.low_euler.proofs.Prelude.{◌≡◌, ◌+◌, length, refl, ap, ◌∙◌, subst, arith, Store, set_solid, within, is_face_of, IsNextFace, faces_of, Merge, after, merge_goes}
use Rattle.euler_operators.specs.Table as table
use Rattle.low_euler.proofs.Merging.{merge_apart, merge_same, one_less, zero_stays, no_zero_face}
use Rattle.low_euler.proofs.face_operators.moving.merge.Goals as goal

pub faces-init : goal.faces-init
faces-init c =
    let M = c.args.arena.now.model in
    record {
      same = refl;
      zero = no_zero_face M c.args.gone c.requires.ready.sound;
      room = c.has-in_use.ensures.room (c.has-in_use.ensures.used ∙ (merge_goes M c.args.kept c.args.gone c.requires.holds).s_there);
      there = (merge_goes M c.args.kept c.args.gone c.requires.holds).t_there;
    }

pub faces-smaller : goal.faces-smaller
faces-smaller c =
    let s : Store = c.faces.arena in
    let next = subst (IsNextFace s.model c.args.gone 0) c.in-Some.is c.face_after.ensures in
    let differs = merge_apart c.args.arena.now.model c.args.kept c.args.gone c.requires.holds in
    let less : length (faces_of s.model c.args.gone) ≡ 1 + length (faces_of (set_solid s c.in-Some.face c.args.kept).model c.args.gone) = one_less s c.args.kept c.args.gone c.in-Some.face differs next.1 in
    let now : length (faces_of c.set_solid.new.self.model c.args.gone) ≡ length (faces_of (set_solid s c.in-Some.face c.args.kept).model c.args.gone) = ap (λ (t : Store). length (faces_of t.model c.args.gone)) c.set_solid.ensures in
    omega (arith, less, now)

pub faces-preserved : goal.faces-preserved
faces-preserved c =
    let s : Store = c.faces.arena in
    let next = subst (IsNextFace s.model c.args.gone 0) c.in-Some.is c.face_after.ensures in
    let differs = merge_apart c.args.arena.now.model c.args.kept c.args.gone c.requires.holds in
    record {
      same = ap (λ t. after t (Merge c.args.kept c.args.gone)) c.set_solid.ensures ∙ merge_same s c.args.kept c.args.gone c.in-Some.face differs next.1 ∙ c.faces.invariant.same;
      zero = ap (λ (t : Store). is_face_of t.model c.args.gone 0) c.set_solid.ensures ∙ zero_stays s c.args.kept c.args.gone c.in-Some.face differs next.0 c.faces.invariant.zero;
      room = ap (λ (t : Store). within c.args.kept t.room.solids) c.set_solid.ensures ∙ c.faces.invariant.room;
      there = ap (λ (t : Store). table.has t.model.solids c.args.gone) c.set_solid.ensures ∙ c.faces.invariant.there;
    }
