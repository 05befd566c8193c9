use Rattle.std.proofs.Common.{◌∙◌, refl, sym}
use Rattle.smsd.proofs.running.manage_behind.Goals as goal

pub returns-in-Some : goal.returns-in-Some
returns-in-Some g c = rw (sym c.day_behind.ensures ∙ c.in-Some.is) c.store_manage.ensures.ends

pub returns-in-None : goal.returns-in-None
returns-in-None g c = rw (sym c.day_behind.ensures ∙ c.in-None.is) (record { status_is = refl; sink = refl; keeper = refl })
