-- What a token holds.
use Rattle.tokens.specs.declared.token.Place.{Place}
use Rattle.tokens.specs.declared.token.Token.{Token}
use Rattle.tokens.specs.declared.token.Token.TheVariants.{Word, Number, End}
use Rattle.tokens.specs.Rows.{Seen, word, number, end}

abbrev pub seen : Token → Seen
seen (Word bytes p) = word bytes.now p
seen (Number bytes n p) = number bytes.now n p
seen (End p) = end p

abbrev pub place_of : Seen → Place
place_of (word f p) = p
place_of (number f n p) = p
place_of (end p) = p
