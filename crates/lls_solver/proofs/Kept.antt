-- What is true over the clauses of a store is true over those of an equal one.
use Rattle.std.proofs.Common.{◌≡◌, ℕ, subst}
use Rattle.lls_store.specs.Trail.{TrailState}
use Rattle.lls_store.specs.Sound.{IsSound}
use Rattle.lls_store.specs.Store.{StoreState, IsConflict}
use Rattle.lls_store.specs.Closed.{IsClosed}
use Rattle.lls_solver.specs.Course.{IsOnCourse, AreClosedBelow}

pub sound_kept : (s t : StoreState) (trail : TrailState) → s ≡ t → IsSound s.live trail → IsSound t.live trail
sound_kept s t trail same sound = subst (λ (x : StoreState). IsSound x.live trail) same sound

pub sound_moved : (s : StoreState) (old new : TrailState) → old ≡ new → IsSound s.live old → IsSound s.live new
sound_moved s old new same sound = subst (λ (x : TrailState). IsSound s.live x) same sound

pub closed_kept : (s t : StoreState) (trail : TrailState) → s ≡ t → IsClosed s.live trail → IsClosed t.live trail
closed_kept s t trail same closed = subst (λ (x : StoreState). IsClosed x.live trail) same closed

pub closed_moved : (s : StoreState) (old new : TrailState) → old ≡ new → IsClosed s.live old → IsClosed s.live new
closed_moved s old new same closed = subst (λ (x : TrailState). IsClosed s.live x) same closed

pub conflict_kept : (s t : StoreState) (trail : TrailState) (c : ℕ) → s ≡ t → IsConflict s.live trail c → IsConflict t.live trail c
conflict_kept s t trail c same conflict = subst (λ (x : StoreState). IsConflict x.live trail c) same conflict

pub closed_below_kept : (s t : StoreState) (trail : TrailState) → s ≡ t → AreClosedBelow s.live trail → AreClosedBelow t.live trail
closed_below_kept s t trail same closed = subst (λ (x : StoreState). AreClosedBelow x.live trail) same closed

pub closed_below_moved : (s : StoreState) (old new : TrailState) → old ≡ new → AreClosedBelow s.live old → AreClosedBelow s.live new
closed_below_moved s old new same closed = subst (λ (x : TrailState). AreClosedBelow s.live x) same closed

pub on_course_kept : (s t : StoreState) (trail : TrailState) → s ≡ t → IsOnCourse s trail → IsOnCourse t trail
on_course_kept s t trail same on = subst (λ (x : StoreState). IsOnCourse x trail) same on
