use Rattle.arena_text.proofs.TextLemmas.{made_full}
use Rattle.arena_text.proofs.text.StringBuilder.from_str_in.Goals as goal

pub returns : goal.returns
returns g c =
    made_full _ _ _ c.in_ok-text.text _ c.in_ok-text.ensures (rw c.as_bytes.ensures.value at c.write.ensures.writes) c.write.ensures.source
