use Rattle.smsd.proofs.serving.keep_and_close.Goals as goal

-- the number is that of why serving ended
pub returns : goal.returns
returns g c = (c.keep-keeper.ensures.end, c.keep-keeper.ensures.code_is)
