-- Answers as text.
use Rattle.std.specs.Prelude.{ℕ, List, [], ◌∷◌, ◌++◌, decimal, codes, flat_map, length, map}
use Rattle.acs_tree.specs.Variables.{name_of}
use Rattle.sms_construct.specs.declared.data_set.DataSet.{DataSet}
use Rattle.sms_construct.specs.declared.entry.Answer.{Answer}
use Rattle.sms_construct.specs.declared.reply.Reply.{Reply}
use Rattle.sms_construct.specs.declared.reply.Reply.TheVariants.{Granted, NotManaged, Extended, Deleted, Activated}
use Rattle.sms_construct.specs.declared.reply.Reply.TheVariants.{Varied, Shown, Purged, Noted, Released, Reused, Below}
use Rattle.sms_construct.specs.declared.reply.Reply.TheVariants.{NoConfig, NameInUse, Exit, UnknownClass, NoQuantity}
use Rattle.sms_construct.specs.declared.reply.Reply.TheVariants.{NoGroup, NoVolume, NotFound, NoExtend, Deck}
use Rattle.sms_construct.specs.declared.reply.Reply.TheVariants.{VolumeInUse, UnknownName, JournalFull, PastGrant}
use Rattle.sms_construct.specs.declared.reply.Reply.TheVariants.{KeeperFault, Memory}
use Rattle.sms_construct.specs.declared.trace.Trace.{Trace}
use Rattle.sms_construct.specs.declared.view.View.{View}
use Rattle.sms_construct.specs.declared.view.View.TheVariants.{Group, Volume, Set}
use Rattle.sms_construct.specs.declared.why_no_extend.WhyNoExtend.{WhyNoExtend}
use Rattle.sms_construct.specs.declared.why_no_extend.WhyNoExtend.TheVariants.{Secondary, Room}
use Rattle.sms_script.specs.FaultText.{fault_text}
use Rattle.sms_script.specs.NameText.{spaced, status_text, target_text, value_text, class_text, extent_text}
use Rattle.sms_script.specs.Script.{items_of}
use Rattle.sms_script.specs.TraceText.{trace_lines}
use Rattle.sms_script.specs.declared.item.Item.{Item}

-- what a DISPLAY shows, in one line
abbrev pub view_text : View → List ℕ
view_text (Group name status volumes capacity free) =
    spaced (codes "STORGRP" ∷ name ∷ status_text status ∷ decimal volumes ∷ decimal capacity ∷ decimal free ∷ [])
view_text (Volume row) =
    spaced (codes "VOLUME" ∷ row.volser ∷ row.group ∷ status_text row.status ∷ decimal row.capacity
    ∷ decimal row.free ∷ decimal row.extents ∷ [])
view_text (Set set) = spaced (codes "SET" ∷ set.dsn ∷ [])

-- why a data set isn't extended
abbrev pub why_text : WhyNoExtend → List ℕ
why_text Secondary = codes "R20 NO EXTEND SECONDARY"
why_text Room = codes "R20 NO EXTEND ROOM"

-- the code of a reply, its words and its figures
abbrev pub reply_text : Reply → List ℕ
reply_text (Granted set trace) = codes "A00 GRANTED"
reply_text (NotManaged trace) = codes "A01 NOT MANAGED"
reply_text (Extended added) = codes "A02 EXTENDED"
reply_text (Deleted tracks) = codes "A03 DELETED " ++ decimal tracks
reply_text (Activated count) = codes "A04 ACTIVATED " ++ decimal count
reply_text (Varied target status) = spaced (codes "A05 VARIED" ∷ target_text target ∷ status_text status ∷ [])
reply_text (Shown view) = codes "A06 " ++ view_text view
reply_text (Purged job floor) = spaced (codes "A07 PURGED" ∷ job ∷ decimal floor ∷ [])
reply_text Noted = codes "A08 NOTED"
reply_text (Released tracks) = codes "A09 RELEASED " ++ decimal tracks
reply_text (Reused first) = codes "R10 REUSED NUMBER " ++ decimal first
reply_text (Below floor) = codes "R11 PURGED NUMBER " ++ decimal floor
reply_text NoConfig = codes "R12 NO CONFIGURATION"
reply_text NameInUse = codes "R13 NAME IN USE"
reply_text (Exit kind code trace) = spaced (codes "R14 EXIT" ∷ name_of kind ∷ decimal code ∷ [])
reply_text (UnknownClass kind name trace) = spaced (codes "R15 UNKNOWN CLASS" ∷ name_of kind ∷ value_text name ∷ [])
reply_text (NoQuantity trace) = codes "R16 NO QUANTITY"
reply_text (NoGroup trace) = codes "R17 NO STORAGE GROUP"
reply_text (NoVolume trace) = codes "R18 NO VOLUME"
reply_text NotFound = codes "R19 NOT FOUND"
reply_text (NoExtend why) = why_text why
reply_text (Deck fault) = codes "R21 DECK " ++ fault_text fault
reply_text (VolumeInUse volser) = codes "R22 VOLUME IN USE " ++ volser
reply_text UnknownName = codes "R23 UNKNOWN NAME"
reply_text JournalFull = codes "R24 JOURNAL FULL"
reply_text (PastGrant granted) = codes "R25 PAST GRANT " ++ decimal granted
reply_text KeeperFault = codes "F30 KEEPER"
reply_text Memory = codes "M31 MEMORY"

-- the tracks that a data set uses
abbrev pub used_text : ℕ → List ℕ
used_text used = codes "USED " ++ decimal used

-- what is said of a data set that is shown
abbrev pub shown_texts : DataSet → List (List ℕ)
shown_texts set = class_text set ∷ used_text set.used ∷ map extent_text set.extents

-- what is said behind the first line of a view
abbrev pub view_texts : View → List (List ℕ)
view_texts (Group name status volumes capacity free) = []
view_texts (Volume row) = []
view_texts (Set set) = shown_texts set

-- what is said of a data set that was allocated, and what its routines wrote
abbrev pub granted_texts : DataSet → Trace → List (List ℕ)
granted_texts set trace = class_text set ∷ (map extent_text set.extents ++ trace_lines trace)

-- what is said behind the first line of a reply
abbrev pub further_texts : Reply → List (List ℕ)
further_texts (Granted set trace) = granted_texts set trace
further_texts (NotManaged trace) = trace_lines trace
further_texts (Extended added) = map extent_text added
further_texts (Deleted tracks) = []
further_texts (Activated count) = []
further_texts (Varied target status) = []
further_texts (Shown view) = view_texts view
further_texts (Purged job floor) = []
further_texts Noted = []
further_texts (Released tracks) = []
further_texts (Reused first) = []
further_texts (Below floor) = []
further_texts NoConfig = []
further_texts NameInUse = []
further_texts (Exit kind code trace) = trace_lines trace
further_texts (UnknownClass kind name trace) = trace_lines trace
further_texts (NoQuantity trace) = trace_lines trace
further_texts (NoGroup trace) = trace_lines trace
further_texts (NoVolume trace) = trace_lines trace
further_texts NotFound = []
further_texts (NoExtend why) = []
further_texts (Deck fault) = []
further_texts (VolumeInUse volser) = []
further_texts UnknownName = []
further_texts JournalFull = []
further_texts (PastGrant granted) = []
further_texts KeeperFault = []
further_texts Memory = []

-- a further line: two spaces, and what is said
abbrev pub indented : List ℕ → List ℕ
indented text = codes "  " ++ text

-- the lines behind the first one of a reply
abbrev pub further_lines : Reply → List (List ℕ)
further_lines reply = map indented (further_texts reply)

-- the lines of a view
abbrev pub view_lines : View → List (List ℕ)
view_lines view = view_text view ∷ map indented (view_texts view)

-- the lines of an answer: its reply, and what stands behind that
abbrev pub answer_lines : Answer → List (List ℕ)
answer_lines answer = reply_text answer.reply ∷ further_lines answer.reply

-- a line and its end
abbrev pub ended : List ℕ → List ℕ
ended line = line ++ 10 ∷ []

-- the first line of an item: its line in the script, the place of its entry, the place of the first reply, and the
-- request
abbrev pub head_text : Item → Answer → List ℕ
head_text item answer =
    spaced (decimal item.line ∷ decimal answer.place ∷ decimal answer.first ∷ item.request.job
    ∷ decimal item.request.number ∷ reply_text answer.reply ∷ [])

-- all lines of an item: the first of its answer behind the places and the request, the others as they are
abbrev pub item_text : Item → Answer → List ℕ
item_text item answer = ended (head_text item answer) ++ flat_map ended (further_lines answer.reply)

-- the lines of all items, each with its answer
abbrev pub items_text : List Item → List Answer → List ℕ
items_text (item ∷ items) (answer ∷ answers) = item_text item answer ++ items_text items answers
items_text [] answers = []
items_text (item ∷ items) [] = []

-- the last line: the number of entries of the desk and that of the items
abbrev pub end_text : ℕ → ℕ → List ℕ
end_text entries items = spaced (codes "END" ∷ decimal entries ∷ decimal items ∷ []) ++ 10 ∷ []

-- the text of a run
abbrev pub text_of : List (List Item) → List Answer → ℕ → List ℕ
text_of phases answers entries = items_text (items_of phases) answers ++ end_text entries (length (items_of phases))
