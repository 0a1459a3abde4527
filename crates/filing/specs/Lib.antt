-- What a picture is filed as: its name, and the texts in its file.
pub mod Names
pub mod Files
pub mod Laws
