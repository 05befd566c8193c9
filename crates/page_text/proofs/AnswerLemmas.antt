-- The parts of pages of answers are their JSON.
use Rattle.std.proofs.Common.{◌≡◌, ◌++◌, ◌∷◌, ℕ, List, refl, append_assoc}
use Rattle.std.specs.Prelude.{codes}
use Rattle.json.specs.Print.{escape_byte}
use Rattle.sms_construct.specs.declared.entry.Entry.{Entry}
use Rattle.sms_construct.specs.declared.reply.Reply.{Reply}
use Rattle.sms_script.specs.AnswerText.{further_lines, reply_text}
use Rattle.page_text.specs.AnswerBodies.{answers_body, barred_body, classified_body, code_of, entry_body, explained_body, passed_body}
use Rattle.page_text.specs.Inner.AnswerPieces.{answers_text, check_text, classified_text, entry_front, entry_rest, explained_text}

pub entry_is : (entry : Entry) → entry_front entry ++ entry_rest entry ≡ entry_body entry
unfolding escape_byte
entry_is entry = simp append_assoc refl

pub answers_is : (entries : List Entry) → answers_text entries ≡ answers_body entries
unfolding escape_byte
answers_is entries = refl

pub classified_is : (outcome : List ℕ) (lines : List (List ℕ)) → classified_text outcome lines ≡ classified_body outcome lines
unfolding escape_byte
classified_is outcome lines = refl

pub explained_is : (told : List ℕ) → explained_text told ≡ explained_body told
unfolding escape_byte
explained_is told = refl

pub passed_is : codes "{\"code\":\"A04\",\"lines\":[]}" ≡ passed_body
unfolding escape_byte
passed_is = refl

pub barred_is : (reply : Reply) → check_text (code_of reply) (reply_text reply ∷ further_lines reply) ≡ barred_body reply
unfolding escape_byte
barred_is reply = refl
