-- What a call answers where `?` passes a refusal up.
-- Assumes nothing.
use mathlib.Core.Path.{◌≡◌, ap}
use Rattle.std.specs.Prelude.{Result, Ok, Err, IsErrAnd}
use Rattle.rules.specs.Answers.{of_result, of_list_result}
use Rattle.rules.specs.declared.Refusal.{Refusal}
use Rattle.rules.specs.declared.ListRefusal.{ListRefusal}

pub passed_up : {A : Type 0} (r : Result A Refusal) (e : Refusal) → IsErrAnd r (λ y. y ≡ e) → of_result r ≡ of_result {A = A} (Err e)
passed_up (Ok a) e h = elim h [ ]
passed_up (Err d) e h = ap (λ (x : Refusal). of_result (Err x)) h

pub passed_up_list : {A : Type 0} (r : Result A ListRefusal) (e : ListRefusal) → IsErrAnd r (λ y. y ≡ e) → of_list_result r ≡ of_list_result {A = A} (Err e)
passed_up_list (Ok a) e h = elim h [ ]
passed_up_list (Err d) e h = ap (λ (x : ListRefusal). of_list_result (Err x)) h
