-- What a grant in a history rests on.
use Rattle.std.specs.Prelude.{ℕ, ◌≡◌, ◌⊎◌, ◌++◌, List, [], ◌∷◌, Ok, Some, find, map, slice_get}
use Rattle.sms_construct.specs.declared.alloc.Alloc.{Alloc}
use Rattle.sms_construct.specs.declared.data_set.DataSet.{DataSet}
use Rattle.sms_construct.specs.declared.entry.Entry.{Entry}
use Rattle.sms_construct.specs.declared.reply.Reply.TheVariants as replies
use Rattle.sms_construct.specs.declared.request.Request.{Request}
use Rattle.sms_construct.specs.declared.request.Op.TheVariants as ops
use Rattle.sms_construct.specs.declared.trace.Trace.{Trace}
use Rattle.sms_construct.specs.declared.volume.VolumeDef.{VolumeDef}
use Rattle.sms_keeper.specs.declared.kept_row.KeptRow.{KeptRow}
use Rattle.sms_keeper.specs.Tables.{is_reply_of}
use Rattle.track_ledger.specs.declared.piece.Piece.{Piece}
use Rattle.volume_lists.specs.Choice.{MayChoose}
use Rattle.desk_law.specs.State.{DeskState, Opening}
use Rattle.desk_law.specs.Classification.{trace_of}
use Rattle.desk_law.specs.Candidates.{grant_on, view_of, want_of}
use Rattle.desk_law.specs.Allocation.{Wish, alloc_case, ask_of, candidates_of, new_set}
use Rattle.desk_law.specs.History.{Reaches}

-- in this state an ALLOC of this job gets this data set and trace: the routines of the active configuration give the
-- classes and the lines, and a volume that may be chosen grants the space by the gap rule
pub record IsLawfulGrant (s : DeskState) (job : List ℕ) (alloc : Alloc) (set : DataSet) (trace : Trace) : Type 0 where
  pub wish : Wish
  pub case : alloc_case s job alloc ≡ Ok wish
  pub position : ℕ
  pub may : MayChoose (map (view_of s (ask_of wish)) (candidates_of wish)) (want_of (ask_of wish)) position
  pub volume : VolumeDef
  pub there : slice_get (candidates_of wish) position ≡ Some volume
  pub pieces : List Piece
  pub granted : grant_on s volume (ask_of wish) 0 ≡ Some pieces
  pub set_is : set ≡ new_set alloc wish volume pieces
  pub trace_is : trace ≡ trace_of wish.classes

-- after these entries the request is an ALLOC that lawfully gets this data set and trace
pub record GrantsLawfully (o : Opening) (before : List Entry) (request : Request) (set : DataSet)
    (trace : Trace) : Type 0 where
  pub alloc : Alloc
  pub op_is : request.op ≡ ops.Alloc alloc
  pub state : DeskState
  pub reaches : Reaches o before state
  pub lawful : IsLawfulGrant state request.job alloc set trace

-- the grant is that of a row of the opening, which is kept for the entry's number
pub record WasOpened (o : Opening) (entry : Entry) (set : DataSet) (trace : Trace) : Type 0 where
  pub row : KeptRow
  pub kept : find (is_reply_of entry.request.job entry.request.number) o.rows.replies ≡ Some row
  pub op_is : entry.request.op ≡ row.request.op
  pub reply_is : row.reply ≡ replies.Granted set trace
  pub first_is : entry.answer.first ≡ row.place

-- the grant is that of this entry or of one before it, with an equal request, which was lawful where it stands
pub record WasEntered (o : Opening) (front : List Entry) (entry : Entry) (set : DataSet) (trace : Trace) : Type 0 where
  pub before : List Entry
  pub one : Entry
  pub behind : List Entry
  pub stands : front ++ entry ∷ [] ≡ before ++ one ∷ behind
  pub job_is : entry.request.job ≡ one.request.job
  pub number_is : entry.request.number ≡ one.request.number
  pub op_is : entry.request.op ≡ one.request.op
  pub first_is : entry.answer.first ≡ one.answer.place
  pub lawful : GrantsLawfully o before one.request set trace

-- where a grant comes from
abbrev pub WasGranted : Opening → List Entry → Entry → DataSet → Trace → Type 0
WasGranted o front entry set trace = WasOpened o entry set trace ⊎ WasEntered o front entry set trace
