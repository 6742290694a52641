use Rattle.std.proofs.Common.{◌≡◌, Decides, ◌∙◌, rules}
use Rattle.std.specs.Str.{bytes_eq}
use Rattle.std.proofs.lemmas.Bool.Decides.{same_from_decides}
use Rattle.std.proofs.lemmas.Iterator.{YieldsList-from_slice}
use Rattle.std.proofs.lemmas.Iterator.Search.{position_from_yields_List}
use Rattle.std.proofs.lemmas.Slice.Eq.{bytes_eq-Decides}
use Rattle.text.specs.Spelled.{spelled}
use Rattle.text.specs.declared.name.Name.{Name}
use Rattle.sheet.proofs.Numbering.{number_of_place}
use Rattle.sheet.proofs.drawn.methods.number_in.Goals as goal

pub returns : goal.returns
returns c =
    position_from_yields_List (λ (n : Name). bytes_eq (spelled n) c.args.name.now) _ _ _ c.position.ensures.ran (YieldsList-from_slice _ c.iter.ensures.rest)
    (λ x b q k. (
      search rules,
      let told : Decides b (spelled x.now ≡ c.args.name.now) = search rules in
          same_from_decides b (bytes_eq (spelled x.now) c.args.name.now) told (bytes_eq-Decides (spelled x.now) c.args.name.now),
    ))
    ∙ number_of_place spelled c.args.names.now c.args.name.now
