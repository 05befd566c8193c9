-- What a packed change holds.
use Rattle.sms_construct.specs.declared.reply.Reply.{Reply}
use Rattle.sms_construct.specs.declared.reply.Reply.TheVariants as replies
use Rattle.sms_construct.specs.declared.request.Op.{Op}
use Rattle.sms_construct.specs.declared.request.Op.TheVariants as ops
use Rattle.sms_keeper.specs.declared.effect.Effect.{Effect}
use Rattle.sms_keeper.specs.declared.effect.Effect.TheVariants as effects
use Rattle.sms_keeper.specs.declared.packed_change.PackedDeed.{PackedDeed}
use Rattle.sms_keeper.specs.declared.packed_change.PackedDeed.TheVariants as deeds

-- the op of a packed change
abbrev pub op_in : PackedDeed → Op
op_in (deeds.Granted asked set trace put) = ops.Alloc asked
op_in (deeds.Extended added put) = ops.Extend put.dsn
op_in (deeds.Deleted deed) = ops.Delete deed.dsn
op_in (deeds.Other deed) = deed.op

-- its reply
abbrev pub reply_in : PackedDeed → Reply
reply_in (deeds.Granted asked set trace put) = replies.Granted set trace
reply_in (deeds.Extended added put) = replies.Extended added
reply_in (deeds.Deleted deed) = replies.Deleted deed.tracks
reply_in (deeds.Other deed) = deed.reply

-- its effect
abbrev pub effect_in : PackedDeed → Effect
effect_in (deeds.Granted asked set trace put) = effects.PutSet put
effect_in (deeds.Extended added put) = effects.PutSet put
effect_in (deeds.Deleted deed) = effects.DropSet deed.dsn
effect_in (deeds.Other deed) = deed.effect
