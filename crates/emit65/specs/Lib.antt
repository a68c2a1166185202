pub mod SectionContents
pub mod Internal
