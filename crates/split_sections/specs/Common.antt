-- The definitions of this crate that many of its files cite, passed on from one place. Declares nothing.
pub use Rattle.split_sections.specs.section_checks.Cycles.{AreCyclesOf, has_stray}
pub use Rattle.split_sections.specs.section_checks.Sections.{IsSection}
pub use Rattle.split_sections.specs.section_cycles.Halves.{AreThere, halves_of}
pub use Rattle.split_sections.specs.section_cycles.Starts.{AreBalanced, AreStarts, IsPlaceOf, start_at, start_vertices, starting}
