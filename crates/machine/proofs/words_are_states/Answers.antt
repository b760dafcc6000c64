use Rattle.std.proofs.Common.{refl, ap, ◌∙◌}
use Rattle.machine.specs.Packed.{pack}
use Rattle.machine.proofs.Unpacking.{unpack_packs, pack_one, words_one}
use Rattle.machine.proofs.RunsFit.{runs_fit}
use Rattle.machine.proofs.words_are_states.Goals as goal

pub returns : goal.returns
returns c = (
  refl,
  record {
    state_back = λ s h. unpack_packs (pack s) s (h, refl);
    words_back = λ ws s h. ap pack (unpack_packs ws s h) ∙ h.1;
    one_state = pack_one;
    one_word_list = words_one;
    runs_fit = runs_fit;
  },
)
