-- What the contracts of `bg_attribs` cite.
pub mod Attribute
