-- The lines of an allocated data set, one by one.
use Rattle.std.proofs.Common.{◌≡◌, ◌∷◌, ◌++◌, map, ap, ◌∙◌}
use Rattle.std.proofs.lemmas.List.{map-append}
use Rattle.std.proofs.lemmas.List.Concat.{flat_map-append}
use Rattle.std.specs.Prelude.{flat_map}
use Rattle.sms_construct.specs.declared.data_set.DataSet.{DataSet}
use Rattle.sms_construct.specs.declared.trace.Trace.{Trace}
use Rattle.sms_script.specs.AnswerText.{ended, granted_texts, indented}
use Rattle.sms_script.specs.NameText.{class_text, extent_text}
use Rattle.sms_script.specs.TraceText.{trace_lines}

pub granted_lines : (set : DataSet) (trace : Trace)
    → map indented (granted_texts set trace) ≡ indented (class_text set) ∷ (map indented (map extent_text set.extents) ++ map indented (trace_lines trace))
granted_lines set trace = ap (λ l. indented (class_text set) ∷ l) (map-append indented (map extent_text set.extents) (trace_lines trace))

-- their text
pub granted_text : (set : DataSet) (trace : Trace)
    → flat_map ended (map indented (granted_texts set trace))
    ≡ ended (indented (class_text set)) ++ (flat_map ended (map indented (map extent_text set.extents)) ++ flat_map ended (map indented (trace_lines trace)))
granted_text set trace =
    ap (flat_map ended) (granted_lines set trace)
    ∙ ap (λ l. ended (indented (class_text set)) ++ l) (flat_map-append ended (map indented (map extent_text set.extents)) (map indented (trace_lines trace)))
