-- The bytes on a page, and what a put does to it.
use Rattle.std.specs.Prelude.{◌≡◌, ℕ, List, ◌++◌, map, take}
use Rattle.text.specs.Spelled.{spelled}
use Rattle.records_write.specs.declared.page.Page.{Page}

abbrev pub shown : Page → List ℕ
shown page = page.bytes.items

-- the names by which it speaks of events
abbrev pub names_of : Page → List (List ℕ)
names_of page = map spelled page.names.now

-- as much of a text as fits
unfoldable pub fitting : List ℕ → List ℕ
fitting text = take 65536 text

-- the text was put at the end, as far as it fits, and the names stayed
pub record Puts (old : Page) (text : List ℕ) (new : Page) : Type 0 where
  pub bytes : shown new ≡ fitting (shown old ++ text)
  pub names : new.names ≡ old.names
