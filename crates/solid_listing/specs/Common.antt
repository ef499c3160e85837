-- The definitions of this crate that many of its files cite, passed on from one place. Declares nothing.
pub use Rattle.solid_listing.specs.Lines.{line_text, spaced, text_of}
pub use Rattle.solid_listing.specs.Listing.{content_words, half_word, kind_lines, kinds, line, numbers_of, or_empty}
unfoldable pub use Rattle.solid_listing.specs.Listing.{lines, listing}
pub use Rattle.solid_listing.specs.Replies.{coefficient_words, refused_head, told_text}
unfoldable pub use Rattle.solid_listing.specs.Replies.{reply_text}
pub use Rattle.solid_listing.specs.Writing.{Gathers, Puts, Takes, Tells, outgoing}
