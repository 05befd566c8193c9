-- What a gate is shown.
use Rattle.std.specs.Prelude.{ℕ, ◌≡◌, List}
use Rattle.sms_construct.specs.Configuration.{Configuration}
use Rattle.sms_construct.specs.declared.alloc.Alloc.{Alloc}
use Rattle.sms_construct.specs.declared.request.Op.TheVariants as ops
use Rattle.sms_construct.specs.declared.request.Request.{Request}
use Rattle.sms_classes.specs.declared.classified.Classified.{Classified}
use Rattle.desk_law.specs.Classification.{classes_of}

-- an ALLOC of the job is classified so under the configuration
pub record HasClasses (config : Configuration) (job : List ℕ) (alloc : Alloc) (made : Classified) : Type 0 where
  pub values_are : made.values ≡ (classes_of config job alloc).values
  pub stop_is : made.stop ≡ (classes_of config job alloc).stop

-- the request is an ALLOC
abbrev pub IsAlloc : Request → Type 0
IsAlloc request = (alloc : Alloc) × (request.op ≡ ops.Alloc alloc)

-- the request is an ALLOC, and is classified so under the configuration
abbrev pub IsShown : Configuration → Request → Classified → Type 0
IsShown config request made =
    (alloc : Alloc) × (request.op ≡ ops.Alloc alloc) × HasClasses config request.job alloc made
