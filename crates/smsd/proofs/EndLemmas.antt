-- How a task ends on a store that may have been opened.
use Rattle.std.proofs.Common.{◌≡◌, ◌⊎◌, ◌∙◌, ℕ, Bool, true, false, refl, inl, inr, IfErr, IfOk, Ok, Err, Result}
use Rattle.std.specs.Process.{exit_status}
use Rattle.std.specs.declared.process.ExitCode.{ExitCode}
use Rattle.smsd.specs.Ends.{IsOfScript, IsUnopened, is_done, judged_status_of}
use Rattle.store_calls.specs.Statuses.{store_status_of}
use Rattle.store_calls.specs.declared.status.StoreStatus.{StoreStatus}

-- as the opening did, or as what was done on it
pub opened_end : {K : Type 0} (ends : ℕ → Type 0) (opened : Result K ExitCode) (code : ℕ) → IfErr opened (λ other. IsUnopened (exit_status other)) → IfErr opened (λ other. code ≡ exit_status other)
    → IfOk opened (λ _. ends code) → IsUnopened code ⊎ ends code
opened_end ends (Ok keeper) code unopened same done = inr done
opened_end ends (Err other) code unopened same done = inl (rw same unopened)

-- what is good has the status of its call
good_status : (status : StoreStatus) (done : Bool) → is_done status ≡ done → judged_status_of status true ≡ store_status_of status
good_status status true is = rw is refl
good_status status false is = rw is refl

-- only a strict script is judged
pub script_end : (strict : Bool) (status : StoreStatus) (good : Bool) (code : ℕ) → (strict ≡ false → good ≡ true) → code ≡ judged_status_of status good → IsOfScript strict code
script_end true status good code lenient is = (status, good, is)
script_end false status good code lenient is =
    let plain : code ≡ judged_status_of status true = rw (lenient refl) at is in
    (status, plain ∙ good_status status (is_done status) refl)
